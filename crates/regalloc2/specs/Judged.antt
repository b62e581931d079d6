-- Why a checked run returns no output.
use Rattle.std.specs.Prelude.{Bool}
use Rattle.regalloc2_function.specs.FunctionValue.{FunctionValue}
use Rattle.regalloc2_function.specs.Machine.{MachineValue}
use Rattle.regalloc2_function.specs.OutputValue.{OutputValue}
use Rattle.regalloc2_semantics.specs.Faithful.{IsFaithful}
use Rattle.regalloc2_fastalloc.specs.Guarantee.{IsAllocation}
use Rattle.regalloc2_fastalloc.specs.ErrorReason.{IsReason, PassesAllChecks}
use Rattle.regalloc2_checker.specs.ErrorsFound.{errors_of}
use Rattle.regalloc2_checker.specs.Report.{IsReport}
use Rattle.regalloc2.specs.declared.checked.CheckedRunError.{CheckedRunError}
use Rattle.regalloc2.specs.declared.checked.CheckedRunError.TheVariants.{Refused, Faults, Unjudged}

-- the checker found errors
abbrev pub IsFault : {A : Type 0} → CheckedRunError A → Type 0
IsFault (Refused r) = ⊥
IsFault (Faults es) = Unit {0}
IsFault Unjudged = ⊥

-- the reason that an error gives: that of the allocator's error, or the errors of what it allocated, which isn't
-- faithful
abbrev pub IsCheckedReason : {A : Type 0} → FunctionValue → MachineValue → Bool → CheckedRunError A → Type 0
IsCheckedReason f env asked (Refused r) = IsReason f env asked r
IsCheckedReason f env asked (Faults es) = (out : OutputValue) × IsAllocation f env out × PassesAllChecks f env asked × (IsFaithful f env out → ⊥)
    × IsReport f env out (errors_of es)
IsCheckedReason f env asked Unjudged = PassesAllChecks f env asked
