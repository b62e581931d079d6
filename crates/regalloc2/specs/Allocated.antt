-- Why `allocate` returns no output. Whether the machine fits the function is tested first; what follows is a checked
-- run's.
use Rattle.std.specs.Prelude.{true}
use Rattle.regalloc2_function.specs.FunctionValue.{FunctionValue}
use Rattle.regalloc2_function.specs.Machine.{MachineValue}
use Rattle.regalloc2_function.specs.Fitting.{MachineFits}
use Rattle.regalloc2_function.specs.Misfit.{IsMisfit}
use Rattle.regalloc2_semantics.specs.Runs.{IsDefinitelyAssigned}
use Rattle.regalloc2_fastalloc.specs.ErrorReason.{IsReason, PassesAllChecks}
use Rattle.regalloc2.specs.Judged.{IsCheckedReason}
use Rattle.regalloc2.specs.declared.checked.CheckedRunError.{CheckedRunError}
use Rattle.regalloc2.specs.declared.checked.CheckedRunError.TheVariants.{Refused as RunRefused, Faults as RunFaults, Unjudged as RunUnjudged}
use Rattle.regalloc2.specs.declared.tested.AllocateError.{AllocateError}
use Rattle.regalloc2.specs.declared.tested.AllocateError.TheVariants.{Misfit, Refused, Faults, Unjudged}
use Rattle.regalloc2.specs.declared.tested.TestedRunError.{TestedRunError}
use Rattle.regalloc2.specs.declared.tested.TestedRunError.TheVariants.{Misfit as RunMisfit, Refused as TestRefused, ReadBeforeWritten}

-- the error that a checked run's is
abbrev pub allocate_error : {A : Type 0} → CheckedRunError A → AllocateError A
allocate_error (RunRefused r) = Refused r
allocate_error (RunFaults es) = Faults es
allocate_error RunUnjudged = Unjudged

-- the checker found errors
abbrev pub IsAllocateFault : {A : Type 0} → AllocateError A → Type 0
IsAllocateFault (Misfit m) = ⊥
IsAllocateFault (Refused r) = ⊥
IsAllocateFault (Faults es) = Unit {0}
IsAllocateFault Unjudged = ⊥

-- the reason that an error gives: the first condition of a fitting machine that fails, or, where none fails, what a
-- checked run says of the function
abbrev pub IsAllocateReason : {A : Type 0} → FunctionValue → MachineValue → AllocateError A → Type 0
IsAllocateReason f env (Misfit m) = IsMisfit f env m × (MachineFits f env → ⊥)
IsAllocateReason f env (Refused r) = MachineFits f env × IsReason f env true r
IsAllocateReason f env (Faults es) = MachineFits f env × IsCheckedReason f env true (RunFaults es)
IsAllocateReason f env Unjudged = MachineFits f env × PassesAllChecks f env true

-- the reason that an error gives where the checker isn't run
abbrev pub IsTestedReason : {A : Type 0} → FunctionValue → MachineValue → AllocateError A → Type 0
IsTestedReason f env (Misfit m) = IsMisfit f env m × (MachineFits f env → ⊥)
IsTestedReason f env (Refused r) = MachineFits f env × IsReason f env true r
IsTestedReason f env (Faults es) = ⊥
IsTestedReason f env Unjudged = ⊥

-- why a run that tests everything returns no output: where no condition of a fitting machine fails, what a run says
-- of the function, and last that some path reads or passes a vreg before writing it
abbrev pub IsTestedRunReason : FunctionValue → MachineValue → TestedRunError → Type 0
IsTestedRunReason f env (RunMisfit m) = IsMisfit f env m × (MachineFits f env → ⊥)
IsTestedRunReason f env (TestRefused r) = MachineFits f env × IsReason f env true r
IsTestedRunReason f env ReadBeforeWritten = MachineFits f env × PassesAllChecks f env true × (IsDefinitelyAssigned f → ⊥)
