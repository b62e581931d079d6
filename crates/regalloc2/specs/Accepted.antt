-- What binds the allocator to the checker: the checker accepts every output that the allocator guarantees.
use Rattle.std.specs.Prelude.{◌≡◌, List, []}
use Rattle.regalloc2_function.specs.FunctionValue.{FunctionValue}
use Rattle.regalloc2_function.specs.Machine.{MachineValue}
use Rattle.regalloc2_function.specs.OutputValue.{OutputValue, IsInOrder}
use Rattle.regalloc2_semantics.specs.Runs.{IsDefinitelyAssigned}
use Rattle.regalloc2_semantics.specs.Faithful.{IsFaithful}
use Rattle.regalloc2_function.specs.WellFormed.{IsWellFormed}
use Rattle.regalloc2_fastalloc.specs.Guarantee.{RunsAsTheFunction}
use Rattle.regalloc2_checker.specs.declared.errors.CheckerError.{CheckerError}
use Rattle.regalloc2_checker.specs.Report.{IsReport}

-- what `run` guarantees of an output, as far as the checker requires it
pub record IsGuaranteed (f : FunctionValue) (env : MachineValue) (out : OutputValue) : Type 0 where
  pub in_order : IsInOrder f out
  pub runs : IsDefinitelyAssigned f → RunsAsTheFunction f env out

-- the checker takes an output, and finds nothing in it
pub record IsAcceptedByChecker (A : Type 0) (f : FunctionValue) (env : MachineValue) (out : OutputValue) : Type 0 where
  pub in_order : IsInOrder f out
  pub faithful : IsFaithful f env out
  pub no_errors : (es : List (CheckerError A)) → IsReport f env out es → es ≡ []

-- of a well-formed function in which no path from the entry reads or passes a vreg before writing it, what is
-- guaranteed is accepted
abbrev pub GuaranteedIsAccepted : Type 0 → Type 0
GuaranteedIsAccepted A = (f : FunctionValue) (env : MachineValue) (out : OutputValue) → IsWellFormed env f → IsDefinitelyAssigned f → IsGuaranteed f env out →
    IsAcceptedByChecker A f env out
