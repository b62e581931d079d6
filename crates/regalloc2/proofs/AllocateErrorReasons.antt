-- What a checked run's error says as an error of `allocate`.
use Rattle.std.specs.Prelude.{true}
use Rattle.regalloc2_function.specs.FunctionValue.{FunctionValue}
use Rattle.regalloc2_function.specs.Machine.{MachineValue}
use Rattle.regalloc2_function.specs.Fitting.{MachineFits}
use Rattle.regalloc2.specs.Judged.{IsCheckedReason, IsFault}
use Rattle.regalloc2.specs.Allocated.{allocate_error, IsAllocateFault, IsAllocateReason}
use Rattle.regalloc2.specs.declared.checked.CheckedRunError.{CheckedRunError}
use Rattle.regalloc2.specs.declared.checked.CheckedRunError.TheVariants.{Refused, Faults, Unjudged}

-- on a fitting machine, the reason of a checked run's error is the reason of the error that `allocate` makes of it
pub allocate_reason : {A : Type 0} (f : FunctionValue) (env : MachineValue) (e : CheckedRunError A) → MachineFits f env → IsCheckedReason f env true e →
    IsAllocateReason f env (allocate_error e)
allocate_reason f env (Refused r) fits h = (fits, h)
allocate_reason f env (Faults es) fits h = (fits, h)
allocate_reason f env Unjudged fits h = (fits, h)

-- where a checked run's error isn't that the checker found errors, neither is the error that `allocate` makes of it
pub no_allocate_fault : {A : Type 0} (e : CheckedRunError A) → (IsFault e → ⊥) → IsAllocateFault (allocate_error e) → ⊥
no_allocate_fault (Refused r) h = h
no_allocate_fault (Faults es) h = h
no_allocate_fault Unjudged h = h
