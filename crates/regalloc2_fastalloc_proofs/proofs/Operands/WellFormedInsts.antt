-- The premises of the lemmas on placing operands, for a well-formed function's instructions.
use Rattle.std.proofs.Common.{ℕ, ◌≡◌, ◌<◌, false, length, refl, arith, ap, nat_eq}
use Rattle.std.proofs.lemmas.Bool.{ne_eqb, and_right}
use Rattle.std.proofs.lemmas.List.Elements.{All-get_or}
use Rattle.regalloc2_names.specs.Operand.{OperandValue, is_def, is_late, is_fixed}
use Rattle.regalloc2_function.specs.FunctionValue.{FunctionValue, IsLimited, inst_at, no_inst, op_at}
use Rattle.regalloc2_function.specs.Machine.{MachineValue}
use Rattle.regalloc2_function.specs.WellFormed.{IsWellFormed, ReusesAreSound}
use Rattle.regalloc2_carry.specs.Instruction.{Knows}
use Rattle.regalloc2_carry.proofs.SingleDef.{Made, ReadsDefined, once_at, knows_at, defined_small, reads_defined}
use Rattle.regalloc2_fastalloc_proofs.proofs.Operands.RecordOfInst.{Orderly}
use Rattle.regalloc2_fastalloc_proofs.proofs.Safety.OperandAssumptions.{reused_constraint}

module _ (env : MachineValue) (f : FunctionValue) (limited : IsLimited f) (ok : IsWellFormed env f) (i : ℕ) (lt : i < length f.insts) where
  reads : ReadsDefined f i
  reads = reads_defined f (omega (arith, ok.successors.0)) ok.follow ok.uses_defined i lt

  reuses : ReusesAreSound env (inst_at f i)
  reuses = All-get_or (ReusesAreSound env) f.insts i no_inst lt ok.reuses

  -- in a well-formed function a number is defined once at an instruction and not read there, and reuses name early uses
  pub orderly : Orderly (inst_at f i).operands
  orderly = record {
    once = once_at f ok.defined_once i lt reads;
    allocated = λ k less def.
        let o : OperandValue = op_at (inst_at f i).operands k in
        let small : o.vreg.number < f.num_vregs = defined_small f ok.defined_once o.vreg.number i k
        (record { inst = lt; operand = less; definition = def; number = refl }) in
        let ne : nat_eq o.vreg.number 1073741823 ≡ false = ne_eqb o.vreg.number 1073741823 (λ e. omega (arith, small, limited.vregs, e)) in
        rw ne (and_right (is_fixed o.constraint) false refl);
    late_reuse = λ d m less e. let r = reuses.each d less m e in (ap is_def r.0, ap is_late r.1);
    named = λ d m less e. let r = reuses.each d less m e in (r.2, ap is_def r.3.is_use, ap is_late r.3.is_early, r.3.reads);
    named_as = λ d m less e.
        reused_constraint env (op_at (inst_at f i).operands d).vreg.class (op_at (inst_at f i).operands m).constraint (reuses.each d less m e).3.may_be;
    apart = reuses.apart;
  }

  -- in a well-formed function each instruction's operands name vregs that are defined somewhere
  pub knows : Knows (Made f) (inst_at f i).operands
  knows = knows_at f ok.defined_once i lt reads
