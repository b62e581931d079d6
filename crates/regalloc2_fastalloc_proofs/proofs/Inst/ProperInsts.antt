-- What the lemmas about one instruction require of all instructions of a function, and why a well-formed function meets
-- it.
use Rattle.std.proofs.Common.{ℕ, ◌<◌, List, length}
use Rattle.std.proofs.lemmas.List.Elements.{All-get_or}
use Rattle.regalloc2_names.specs.Register.{VirtualRegister}
use Rattle.regalloc2_names.specs.Place.{Place}
use Rattle.regalloc2_function.specs.FunctionValue.{FunctionValue, IsLimited, inst_at, no_inst}
use Rattle.regalloc2_function.specs.Machine.{MachineValue}
use Rattle.regalloc2_function.specs.WellFormed.{IsWellFormed, FixedAvoidClobbers}
use Rattle.regalloc2_carry.specs.Instruction.{Knows}
use Rattle.regalloc2_carry.proofs.SingleDef.{Made}
use Rattle.regalloc2_fastalloc_proofs.proofs.Operands.RecordOfInst.{Orderly}
use Rattle.regalloc2_fastalloc_proofs.proofs.Operands.WellFormedInsts as well_formed
use Rattle.regalloc2_fastalloc_proofs.proofs.Evictions.FixedAvoidClobbers as fixed
use Rattle.regalloc2_fastalloc_proofs.proofs.Inst.BoundaryToFirstOperand.{AvoidClobbers}

-- each instruction's operands are orderly, no fixed register is a clobber where that matters, and the vregs that they
-- name are known
pub record ProperInsts (Known : VirtualRegister → Type 0) (f : FunctionValue) : Type 0 where
  pub orderly : (i : ℕ) → i < length f.insts → Orderly (inst_at f i).operands
  pub avoids : (i : ℕ) → i < length f.insts → AvoidClobbers (inst_at f i).operands (inst_at f i).clobbers
  pub knows : (i : ℕ) → i < length f.insts → Knows Known (inst_at f i).operands

-- A function whose instructions are proper, with the places of its operands. Known: the vregs, one for each number.
pub record ProperCode : Type 1 where
  pub Known : VirtualRegister → Type 0
  pub f : FunctionValue
  pub placesf : ℕ → List Place
  pub proper : ProperInsts Known f

-- the record, built from its parts
abbrev pub proper_of : (Known : VirtualRegister → Type 0) (f : FunctionValue) → (ℕ → List Place) → ProperInsts Known f → ProperCode
proper_of Known f placesf proper = record { Known = Known; f = f; placesf = placesf; proper = proper }

-- in a well-formed function all instructions are proper, and the vregs that they name are defined somewhere
pub all_proper : (env : MachineValue) (f : FunctionValue) → IsLimited f → IsWellFormed env f → ProperInsts (Made f) f
all_proper env f limited ok = record {
  orderly = well_formed.orderly env f limited ok;
  avoids = λ i lt. fixed.avoids (inst_at f i) (All-get_or FixedAvoidClobbers f.insts i no_inst lt ok.fixed);
  knows = well_formed.knows env f limited ok;
}
