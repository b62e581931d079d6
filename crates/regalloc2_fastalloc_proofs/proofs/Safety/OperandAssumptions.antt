-- The premises on operands, for a well-formed function.
use Rattle.std.proofs.Common.{ℕ, ◌≡◌, ◌<◌, Bool, true, false, ◌&&◌, List, length, refl, sym, ap, inl, inr, ◌⊎◌}
use Rattle.std.specs.Prelude.{not}
use Rattle.regalloc2_names.specs.declared.OperandConstraint.{OperandConstraint}
use Rattle.regalloc2_names.specs.declared.OperandConstraint.TheVariants.{Reg, FixedReg, Limit}
use Rattle.regalloc2_names.specs.declared.RegClass.{RegClass}
use Rattle.regalloc2_names.specs.Register.{Register, VirtualRegister}
use Rattle.regalloc2_names.specs.Operand.{OperandValue, is_def, is_late, is_reading, is_fixed_nonallocatable}
use Rattle.regalloc2_names.specs.Packing.{IsConstraintOf}
use Rattle.regalloc2_function.specs.FunctionValue.{InstValue, op_at}
use Rattle.regalloc2_function.specs.Machine.{MachineValue}
use Rattle.regalloc2_function.specs.WellFormed.{MayBeReused, ReusesAreSound}
use Rattle.regalloc2_carry.specs.Instruction.{Knows}
use Rattle.regalloc2_carry.specs.OperandsPlaced.{Once, Counts, what_of}
use Rattle.regalloc2_carry.proofs.Operands.{reads_use}
use Rattle.regalloc2_fastalloc_proofs.proofs.Operands.AllocsSoFar.{AreSoundOperands}

-- a constraint that may be reused is `Reg` or `FixedReg`
pub reused_constraint : (env : MachineValue) (class : RegClass) (c : OperandConstraint) → MayBeReused env class c → (c ≡ Reg) ⊎ ((r : Register) × (c ≡ FixedReg r))
reused_constraint env class Reg h = inl refl
reused_constraint env class (FixedReg r) h = inr (r, refl)
reused_constraint env class c h = absurd h

-- an operand that names a vreg defines it or reads it
pub defines_or_reads : (o : OperandValue) → is_fixed_nonallocatable o ≡ false → (is_def o.kind ≡ true) ⊎ (is_reading o ≡ true)
defines_or_reads o h = by_test (is_def o.kind) (is_fixed_nonallocatable o) h
  where
    by_test : (a b : Bool) → b ≡ false → (a ≡ true) ⊎ ((not a && not b) ≡ true)
    by_test true b e = inl refl
    by_test false b e = inr (ap not e)

-- operands of known vregs, each defined once, under legal constraints other than `Limit`, with valid reuses, are sound
pub sound_ops_of : (env : MachineValue) (Known : VirtualRegister → Type 0) (inst : InstValue) → Knows Known inst.operands →
    Once (Counts inst.operands) (what_of inst.operands)
    → ((k : ℕ) → k < length inst.operands → is_def (op_at inst.operands k).kind ≡ true → is_fixed_nonallocatable (op_at inst.operands k) ≡ false)
    → ReusesAreSound env inst
    → ((k : ℕ) → k < length inst.operands → IsConstraintOf (op_at inst.operands k).vreg.class (op_at inst.operands k).constraint)
    → ((k n : ℕ) → k < length inst.operands → (op_at inst.operands k).constraint ≡ Limit n → ⊥)
    → AreSoundOperands Known inst.operands
sound_ops_of env Known inst knows once allocated reuses constraint unlimited =
    let ops : List OperandValue = inst.operands in
    record {
      same = knows.same;
      known = λ k less a. elim (defines_or_reads (op_at ops k) a) [
        | inl def ↦ knows.definition k less def
        | inr reads ↦ knows.reading k less reads
      ];
      constraint = constraint;
      allocated = allocated;
      unlimited = unlimited;
      late_reuse = λ k n less e. (let r = reuses.each k less n e in (ap is_def r.0, ap is_late r.1));
      named = λ k n less e. (let r = reuses.each k less n e in (r.2, ap is_late r.3.is_early, r.3.reads, r.3.same_class));
      named_as = λ k n less e. reused_constraint env (op_at ops k).vreg.class (op_at ops n).constraint (reuses.each k less n e).3.may_be;
      apart = reuses.apart;
      unread = λ j k lj lk def reads e. once.unread j k (lj, inl def) (lk, inr reads) def (reads_use (op_at ops k) reads) (sym e);
    }
