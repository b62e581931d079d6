-- Which calls say that operands are too many, where the call below says so exactly where they are.
use Rattle.std.proofs.Common.{ℕ, ◌≡◌, ◌<◌, ◌≤◌, ◌^◌, Ok, Err, ap, arith, inl, inr}
use Rattle.std.specs.Prelude.{◌↔◌, Result}
use Rattle.regalloc2_names.specs.declared.RegAllocError.{RegAllocError}
use Rattle.regalloc2_names.specs.declared.RegAllocError.TheVariants.{Memory, TooManyOperands}
use Rattle.regalloc2_function.specs.FunctionValue.{FunctionValue, operand_count}
use Rattle.regalloc2_function.specs.Machine.{MachineValue}
use Rattle.regalloc2_function.specs.OutputValue.{OutputValue}
use Rattle.regalloc2.specs.Allocated.{allocate_error}
use Rattle.regalloc2.proofs.CheckerErrorReasons.{IsCheckerFailure}
use Rattle.regalloc2.specs.declared.checked.CheckedRunError.{CheckedRunError}
use Rattle.regalloc2.specs.declared.checked.CheckedRunError.TheVariants.{Refused, Faults, Unjudged}
use Rattle.regalloc2.specs.declared.tested.AllocateError.{AllocateError}
use Rattle.regalloc2.specs.declared.tested.AllocateError.TheVariants.{Refused as AllocateRefused}
use Rattle.regalloc2.specs.declared.tested.TestedRunError.{TestedRunError}
use Rattle.regalloc2.specs.declared.tested.TestedRunError.TheVariants.{Refused as TestRefused}

-- a result is the error
abbrev pub FailsWith : (T E : Type 0) → Result T E → E → Type 0
FailsWith T E r e = r ≡ Err e

-- where operands are few, what never holds holds exactly where they are too many
pub few_counted : {Q : Type 0} (f : FunctionValue) → operand_count f < 2 ^ 32 → (Q → ⊥) → Q ↔ (2 ^ 32 ≤ operand_count f)
few_counted f few never = (λ q. absurd (never q), λ many. absurd (omega (arith, few, many)))

-- a run's error says it as the refusal of a checked run
pub refused_counted : {A T U P : Type 0} (r : RegAllocError) → FailsWith T RegAllocError (Err r) TooManyOperands ↔ P →
    FailsWith U (CheckedRunError A) (Err (Refused r)) (Refused TooManyOperands) ↔ P
refused_counted {A = A} {T = T} {U = U} r h = (
  λ e. let same : r ≡ TooManyOperands = cc in h.0 (ap Err same),
  λ p.
      let said : FailsWith T RegAllocError (Err r) TooManyOperands = h.1 p in
      let same : r ≡ TooManyOperands = cc in
      ap (λ (x : RegAllocError). Err (Refused x)) same,
)

-- the checker's errors don't say it
pub found_counted : {A U : Type 0} (f : FunctionValue) (env : MachineValue) (out : OutputValue) (e : CheckedRunError A) → operand_count f < 2 ^ 32 →
    IsCheckerFailure f env out e → FailsWith U (CheckedRunError A) (Err e) (Refused TooManyOperands) ↔ (2 ^ 32 ≤ operand_count f)
found_counted f env out e few (inl h) = few_counted f few (λ q. absurd cc)
found_counted f env out e few (inr h) = few_counted f few (λ q. let is = h.1 in absurd cc)

-- a checked run's error says it as the error that `allocate` makes of it
pub checked_run_counted : {A T U P : Type 0} (e : CheckedRunError A) → FailsWith T (CheckedRunError A) (Err e) (Refused TooManyOperands) ↔ P →
    FailsWith U (AllocateError A) (Err (allocate_error e)) (AllocateRefused TooManyOperands) ↔ P
checked_run_counted {A = A} {T = T} {U = U} (Refused r) h = (
  λ e.
      let same : r ≡ TooManyOperands = cc in
      h.0 (ap (λ (x : RegAllocError). Err (Refused x)) same),
  λ p.
      let said : FailsWith T (CheckedRunError A) (Err (Refused r)) (Refused TooManyOperands) = h.1 p in
      let same : r ≡ TooManyOperands = cc in
      ap (λ (x : RegAllocError). Err (AllocateRefused x)) same,
)
checked_run_counted (Faults es) h = (λ e. absurd cc, λ p. let said = h.1 p in absurd cc)
checked_run_counted Unjudged h = (λ e. absurd cc, λ p. let said = h.1 p in absurd cc)

-- a run's error says it as the refusal of `allocate_without_checker`, and of `run_tested`
pub allocate_counted : {A T U P : Type 0} (r : RegAllocError) → FailsWith T RegAllocError (Err r) TooManyOperands ↔ P →
    FailsWith U (AllocateError A) (Err (AllocateRefused r)) (AllocateRefused TooManyOperands) ↔ P
allocate_counted {A = A} {T = T} {U = U} r h = (
  λ e. let same : r ≡ TooManyOperands = cc in h.0 (ap Err same),
  λ p.
      let said : FailsWith T RegAllocError (Err r) TooManyOperands = h.1 p in
      let same : r ≡ TooManyOperands = cc in
      ap (λ (x : RegAllocError). Err (AllocateRefused x)) same,
)

pub tested_counted : {T U P : Type 0} (r : RegAllocError) → FailsWith T RegAllocError (Err r) TooManyOperands ↔ P →
    FailsWith U TestedRunError (Err (TestRefused r)) (TestRefused TooManyOperands) ↔ P
tested_counted {T = T} {U = U} r h = (
  λ e. let same : r ≡ TooManyOperands = cc in h.0 (ap Err same),
  λ p.
      let said : FailsWith T RegAllocError (Err r) TooManyOperands = h.1 p in
      let same : r ≡ TooManyOperands = cc in
      ap (λ (x : RegAllocError). Err (TestRefused x)) same,
)
