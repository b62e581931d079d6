-- Instructions that fit (`Fits`): `TooManyLiveRegs` is returned only if an instruction does not fit.
-- When an instruction fits is this project's own.
use Rattle.std.specs.Prelude.{ℕ, nat_lt, is_none, ◌≡◌, ◌+◌, ◌<◌, ◌≤◌, ◌⊎◌, Bool, true, false, ◌&&◌, ◌||◌, not, nat_eq, if◌then◌else◌, count_by, length}
use Rattle.regalloc2_names.specs.declared.OperandConstraint.{OperandConstraint}
use Rattle.regalloc2_names.specs.declared.OperandConstraint.TheVariants.{Any, Reg, Stack, FixedReg, Reuse, Limit}
use Rattle.regalloc2_names.specs.declared.RegClass.{RegClass}
use Rattle.regalloc2_names.specs.Register.{Register, class_code, has_register}
use Rattle.regalloc2_names.specs.Operand.{OperandValue, is_def, is_late, is_fixed_nonallocatable}
use Rattle.regalloc2_function.specs.FunctionValue.{FunctionValue, InstValue, EachOperand, op_at}
use Rattle.regalloc2_function.specs.Machine.{MachineValue, is_allocatable, scratch_of, IsFixedStackSlot, count_below, allocatable_count}
use Rattle.regalloc2_function.specs.WellFormed.{IsReused}
use Rattle.regalloc2_function.specs.Fitting.{NamesClass}

-- an operand takes the early position of its instruction; a late definition does so only if it is a reuse
abbrev pub TakesEarly : OperandValue → Type 0
TakesEarly o = (is_def o.kind && is_late o.position) ≡ true → (n : ℕ) × (o.constraint ≡ Reuse n)

-- operand `k` takes the late position of its instruction; an early use does so only if it is reused
abbrev pub TakesLate : InstValue → ℕ → OperandValue → Type 0
TakesLate i k o = (not (is_def o.kind) && not (is_late o.position)) ≡ true → IsReused i.operands k

-- the constraint `Reg`: any register
abbrev pub is_under_reg : OperandConstraint → Bool
is_under_reg Any = false
is_under_reg Reg = true
is_under_reg Stack = false
is_under_reg (FixedReg r) = false
is_under_reg (Reuse n) = false
is_under_reg (Limit n) = false

-- the constraint that names the register
abbrev pub is_fixed_to : Register → OperandConstraint → Bool
is_fixed_to q Any = false
is_fixed_to q Reg = false
is_fixed_to q Stack = false
is_fixed_to q (FixedReg r) = nat_eq (class_code q.class) (class_code r.class) && nat_eq q.number r.number
is_fixed_to q (Reuse n) = false
is_fixed_to q (Limit n) = false

-- the register of a class and a number
abbrev pub register_number : RegClass → ℕ → Register
register_number class n = record { number = n; class = class }

-- the registers of a class that an instruction needs: one for each operand that may be in any, and each that is fixed or clobbered
unfoldable pub need_of : MachineValue → RegClass → InstValue → ℕ
need_of env class i =
    count_by (λ o. is_under_reg o.constraint && nat_eq (class_code o.vreg.class) (class_code class)) i.operands
    + count_below (λ n. is_allocatable env class (register_number class n)
    && (has_register i.clobbers (register_number class n) || nat_lt 0 (count_by (λ o. is_fixed_to (register_number class n) o.constraint) i.operands))) 64

-- An instruction that has registers enough: besides the registers that it needs, one more where the class has fixed stack
-- slots and no dedicated scratch register.
pub record Fits (f : FunctionValue) (env : MachineValue) (i : InstValue) : Type 0 where
  pub fixed : EachOperand i (λ k o. is_fixed_nonallocatable o ≡ false → (r : Register) → o.constraint ≡ FixedReg r → (is_allocatable env r.class r ≡ true)
      ⊎ IsFixedStackSlot env r)
  pub apart : (j k : ℕ) (r : Register) → j < k → k < length i.operands →
      let a : OperandValue = op_at i.operands j in
      let b : OperandValue = op_at i.operands k in
      is_fixed_nonallocatable a ≡ false → is_fixed_nonallocatable b ≡ false → a.constraint ≡ FixedReg r → b.constraint ≡ FixedReg r →
      (TakesEarly a × TakesEarly b → ⊥) × (TakesLate i j a × TakesLate i k b → ⊥)
  pub enough : (c : RegClass) → NamesClass f c → need_of env c i
      + (if nat_lt 0 (count_by (λ r. nat_eq (class_code r.class) (class_code c)) env.fixed_stack_slots) && is_none (scratch_of env c) then 1 else 0)
      ≤ allocatable_count env c
