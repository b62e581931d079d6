-- The whole walk over a well-formed function keeps the tables safe, and each operand has a good place.
use Rattle.std.proofs.Common.{ℕ, ◌<◌, length}
use Rattle.std.proofs.lemmas.List.Elements.{All-get_or}
use Rattle.regalloc2_function.specs.FunctionValue.{FunctionValue, IsLimited, inst_at, no_inst, no_operand, op_at}
use Rattle.regalloc2_function.specs.Machine.{MachineValue}
use Rattle.regalloc2_function.specs.WellFormed.{IsWellFormed, ReusesAreSound}
use Rattle.regalloc2_carry.proofs.SingleDef.{Made}
use Rattle.regalloc2_fastalloc_state.specs.Validate.NoLimits.{IsTakenOperand, AreTaken}
use Rattle.regalloc2_fastalloc_proofs.proofs.Operands.AllocsSoFar.{AreSoundOperands}
use Rattle.regalloc2_fastalloc_proofs.proofs.Operands.WellFormedInsts.{orderly, knows}
use Rattle.regalloc2_fastalloc_proofs.proofs.Safety.OperandAssumptions.{sound_ops_of}

-- the operands of an instruction
pub sound_ops_at : (env : MachineValue) (f : FunctionValue) → IsLimited f → IsWellFormed env f → AreTaken f → (i : ℕ) → i < length f.insts →
    AreSoundOperands (Made f) (inst_at f i).operands
sound_ops_at env f limited ok taken i lt =
    let o = orderly env f limited ok i lt in
    let t : (k : ℕ) → k < length (inst_at f i).operands → IsTakenOperand (op_at (inst_at f i).operands k) = λ k less. All-get_or IsTakenOperand
    (inst_at f i).operands k
    no_operand less (taken i lt) in
    sound_ops_of env (Made f) (inst_at f i) (knows env f limited ok i lt) o.once o.allocated (All-get_or (ReusesAreSound env) f.insts i no_inst lt ok.reuses)
    (λ k less. (t k less).of_class) (λ k n less. (t k less).unlimited n)
