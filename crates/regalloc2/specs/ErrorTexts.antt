-- The texts of the errors of checked and tested runs: what failed, and the text of the error that it holds.
use Rattle.std.specs.Prelude.{ℕ, codes, List, ◌++◌}
use Rattle.regalloc2_names.specs.Text.{refusal_text}
use Rattle.regalloc2_names.specs.declared.RegAllocError.{RegAllocError}
use Rattle.regalloc2_function.specs.MisfitText.{misfit_text}
use Rattle.regalloc2_function.specs.declared.misfit.MachineMisfit.{MachineMisfit}
use Rattle.regalloc2_checker.specs.declared.errors.CheckerErrors.{CheckerErrors}
use Rattle.regalloc2_checker.specs.ErrorsFound.{errors_of}
use Rattle.regalloc2_checker.specs.ErrorsText.{errors_text}
use Rattle.regalloc2.specs.declared.checked.CheckedRunError.{CheckedRunError}
use Rattle.regalloc2.specs.declared.checked.CheckedRunError.TheVariants.{Refused as RunRefused, Faults as RunFaults, Unjudged as RunUnjudged}
use Rattle.regalloc2.specs.declared.tested.AllocateError.{AllocateError}
use Rattle.regalloc2.specs.declared.tested.AllocateError.TheVariants.{Misfit, Refused, Faults, Unjudged}
use Rattle.regalloc2.specs.declared.tested.TestedRunError.{TestedRunError}
use Rattle.regalloc2.specs.declared.tested.TestedRunError.TheVariants.{Misfit as RunMisfit, Refused as TestRefused, ReadBeforeWritten}

-- as `no registers were allocated: out of memory`
abbrev pub unallocated_text : RegAllocError → List ℕ
unallocated_text e = codes "no registers were allocated: " ++ refusal_text e

-- as `the machine doesn't fit the function: a fixed stack slot is the invalid register`
abbrev pub unfit_text : MachineMisfit → List ℕ
unfit_text m = codes "the machine doesn't fit the function: " ++ misfit_text m

-- the first error that the checker found, and how many more there are
abbrev pub faults_text : {A : Type 0} → CheckerErrors A → List ℕ
faults_text es = codes "the checker found errors in the output: " ++ errors_text (errors_of es)

abbrev pub unjudged_text : List ℕ
unjudged_text = codes "the checker ran out of memory"

abbrev pub checked_run_text : {A : Type 0} → CheckedRunError A → List ℕ
checked_run_text (RunRefused e) = unallocated_text e
checked_run_text (RunFaults es) = faults_text es
checked_run_text RunUnjudged = unjudged_text

abbrev pub allocate_text : {A : Type 0} → AllocateError A → List ℕ
allocate_text (Misfit m) = unfit_text m
allocate_text (Refused e) = unallocated_text e
allocate_text (Faults es) = faults_text es
allocate_text Unjudged = unjudged_text

abbrev pub tested_run_text : TestedRunError → List ℕ
tested_run_text (RunMisfit m) = unfit_text m
tested_run_text (TestRefused e) = unallocated_text e
tested_run_text ReadBeforeWritten = codes "a virtual register is read or passed before it is written"
