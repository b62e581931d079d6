-- What the checker's errors mean for a checked run.
use Rattle.std.proofs.Common.{◌≡◌, List, [], ◌∷◌, inl, inr, subst}
use Rattle.std.specs.Prelude.{◌⊎◌, Bool}
use Rattle.regalloc2_function.specs.FunctionValue.{FunctionValue}
use Rattle.regalloc2_function.specs.Machine.{MachineValue}
use Rattle.regalloc2_function.specs.OutputValue.{OutputValue}
use Rattle.regalloc2_semantics.specs.Faithful.{IsFaithful}
use Rattle.regalloc2_fastalloc.specs.Guarantee.{IsAllocation}
use Rattle.regalloc2_fastalloc.specs.ErrorReason.{PassesAllChecks}
use Rattle.regalloc2_checker.specs.declared.errors.CheckerError.{CheckerError}
use Rattle.regalloc2_checker.specs.declared.errors.CheckerError.TheVariants.{Memory}
use Rattle.regalloc2_checker.specs.declared.errors.CheckerErrors.{CheckerErrors}
use Rattle.regalloc2_checker.specs.ErrorsFound.{errors_of}
use Rattle.regalloc2_checker.specs.Report.{IsReport}
use Rattle.regalloc2.specs.declared.checked.CheckedRunError.{CheckedRunError}
use Rattle.regalloc2.specs.declared.checked.CheckedRunError.TheVariants.{Faults, Unjudged}
use Rattle.regalloc2.specs.Judged.{IsCheckedReason, IsFault}

-- the error of an output that isn't accepted
abbrev pub IsCheckerFailure : {A : Type 0} → FunctionValue → MachineValue → OutputValue → CheckedRunError A → Type 0
IsCheckerFailure {A} f env out e = (e ≡ Unjudged) ⊎ ((es : CheckerErrors A) × (e ≡ Faults es) × (IsFaithful f env out → ⊥) × IsReport f env out (errors_of es))

-- an output's errors, as a checked run reports them
pub checker_failure : {A : Type 0} (f : FunctionValue) (env : MachineValue) (out : OutputValue) (es : CheckerErrors A) (e : CheckedRunError A) →
    (errors_of es ≡ Memory ∷ []) ⊎ ((IsFaithful f env out → ⊥) × IsReport f env out (errors_of es)) →
    ((errors_of es ≡ Memory ∷ []) × (e ≡ Unjudged)) ⊎ ((errors_of es ≡ Memory ∷ [] → ⊥) × (e ≡ Faults es)) → IsCheckerFailure f env out e
checker_failure f env out es e found (inl h) = inl h.1
checker_failure f env out es e (inl m) (inr h) = absurd (h.0 m)
checker_failure f env out es e (inr r) (inr h) = inr (es, h.1, r.0, r.1)

-- the reason that they give
pub checked_reason : {A : Type 0} (f : FunctionValue) (env : MachineValue) (asked : Bool) (out : OutputValue) (e : CheckedRunError A) → IsAllocation f env out →
    PassesAllChecks f env asked → IsCheckerFailure f env out e → IsCheckedReason f env asked e
checked_reason f env asked out e made owed (inl h) = rw h owed
checked_reason f env asked out e made owed (inr h) = rw h.1 (out, made, owed, h.2, h.3)

-- what the checker finds for a function and a machine it finds for equal ones
pub same_found : {F A : Type 0} (value : F → FunctionValue) (x y : F) (m n : MachineValue) (out : OutputValue) (es : List (CheckerError A)) → x ≡ y → m ≡ n →
    (es ≡ Memory ∷ []) ⊎ ((IsFaithful (value x) m out → ⊥) × IsReport (value x) m out es) → (es ≡ Memory ∷ [])
    ⊎ ((IsFaithful (value y) n out → ⊥) × IsReport (value y) n out es)
same_found {F = F} value x y m n out es p q h =
    subst (λ (z : F). (es ≡ Memory ∷ []) ⊎ ((IsFaithful (value z) n out → ⊥) × IsReport (value z) n out es)) p
    (subst (λ (k : MachineValue). (es ≡ Memory ∷ []) ⊎ ((IsFaithful (value x) k out → ⊥) × IsReport (value x) k out es)) q h)

-- in a faithful output no error is found
pub no_fault_where_faithful : {A : Type 0} (f : FunctionValue) (env : MachineValue) (out : OutputValue) (e : CheckedRunError A) → IsFaithful f env out → IsCheckerFailure f env out e →
    IsFault e → ⊥
no_fault_where_faithful f env out e faithful (inl h) fault = rw h at fault
no_fault_where_faithful f env out e faithful (inr h) fault = h.2 faithful
