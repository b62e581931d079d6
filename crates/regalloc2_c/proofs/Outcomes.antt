-- What comes of a call that allocates, from what comes of its parts.
use Rattle.std.proofs.Common.{ℕ, ◌≡◌, ◌⊎◌, inl, inr, true, List, Result, Ok, Err, refl, sym, subst}
use Rattle.std.specs.Prelude.{IfOk, IfErr}
use Rattle.std.specs.Global.{Vec}
use Rattle.std.specs.declared.alloc.Global.{Global}
use Rattle.regalloc2.specs.FunctionValue.{FunctionValue}
use Rattle.regalloc2.specs.Machine.{MachineValue}
use Rattle.regalloc2.specs.Fitting.{MachineFits}
use Rattle.regalloc2.specs.ErrorReason.{PassesAllChecks}
use Rattle.regalloc2.specs.OutputValue.{OutputValue, IsInOrder}
use Rattle.regalloc2.specs.Stored.{NamesValues, output_of_stored}
use Rattle.regalloc2.specs.Runs.{IsDefinitelyAssigned}
use Rattle.regalloc2.specs.Faithful.{IsFaithful}
use Rattle.regalloc2.specs.WellFormed.{IsWellFormed}
use Rattle.regalloc2.specs.Guarantee.{IsAllocation, RunsAsTheFunction, LiveInSlots}
use Rattle.regalloc2.specs.Report.{IsReport}
use Rattle.regalloc2.specs.Allocated.{IsTestedReason, IsTestedRunReason}
use Rattle.regalloc2.specs.declared.tested.AllocateError.{AllocateError}
use Rattle.regalloc2.specs.declared.tested.AllocateError.TheVariants.{Misfit, Refused as RunRefused, Faults as RunFaults, Unjudged}
use Rattle.regalloc2.specs.declared.tested.TestedRunError.{TestedRunError}
use Rattle.regalloc2.specs.declared.tested.TestedRunError.TheVariants.{Misfit as RunMisfit, Refused as TestRefused, ReadBeforeWritten}
use Rattle.regalloc2_function.specs.declared.serialize.StoredOutput.{StoredOutput}
use Rattle.regalloc2_function.specs.declared.serialize.StoredFault.{StoredFault}
use Rattle.regalloc2_function.specs.declared.serialize.StoredFault.TheVariants.{Lengths, Index, Bits, Limit, Memory, Shape}
use Rattle.regalloc2_serialize.specs.Flat.Flat.{HasLongWord, output_words}
use Rattle.regalloc2_checker.specs.declared.errors.CheckerError.{CheckerError}
use Rattle.regalloc2_c.specs.Faults.{IsCheckerVerdict, faults_words, malformed_words}
use Rattle.regalloc2_c.specs.Status.{allocate_failure, run_failure, write_failure}
use Rattle.regalloc2_c.specs.Outcome.{IsAllocatedOutput, IsAllocateFailure, IsTestedOutput, IsRunFailure, ResultsIn}
use Rattle.regalloc2_c.specs.declared.failure.Failure.{Failure}
use Rattle.regalloc2_c.specs.declared.failure.Failure.TheVariants.{Faults}

-- the words of an output that was allocated
pub allocated_words : (f : FunctionValue) (env : MachineValue) (out : OutputValue) (numbers : StoredOutput Global) → MachineFits f env →
    IsWellFormed env f → PassesAllChecks f env true → IsAllocation f env out → IsFaithful f env out → output_of_stored numbers ≡ out →
    NamesValues numbers → IsAllocatedOutput f env (output_words numbers)
allocated_words f env out numbers fitting formed passed allocation faithful same names = record {
  out = out;
  output = record { stored = numbers; laid_out = refl; names = (names, sym same) };
  fitting = fitting;
  well_formed = formed;
  passes_checks = passed;
  allocation = allocation;
  faithful = faithful;
}

-- the words of an output that a tested run gave
pub tested_words : (f : FunctionValue) (env : MachineValue) (out : OutputValue) (numbers : StoredOutput Global) → MachineFits f env →
    IsWellFormed env f → PassesAllChecks f env true → RunsAsTheFunction f env out → (a : IsAllocation f env out) × LiveInSlots f out a.owners.owner →
    IsDefinitelyAssigned f → output_of_stored numbers ≡ out → NamesValues numbers → IsTestedOutput f env (output_words numbers)
tested_words f env out numbers fitting formed passed runs (allocation, live) written same names = record {
  out = out;
  output = record { stored = numbers; laid_out = refl; names = (names, sym same) };
  fitting = fitting;
  well_formed = formed;
  passes_checks = passed;
  allocation = allocation;
  runs = runs;
  live = live;
  written = written;
}

-- why nothing was allocated
pub refused_as : (f : FunctionValue) (env : MachineValue) (e : AllocateError Global) → IsTestedReason f env e → IsAllocateFailure f env (allocate_failure e)
refused_as f env (Misfit m) h = (h.0, h.1)
refused_as f env (RunRefused r) h = (h.0, h.1)
refused_as f env (RunFaults es) h = tt
refused_as f env Unjudged h = tt

-- where something was allocated, why it isn't faithful
faulty : (f : FunctionValue) (env : MachineValue) (out : OutputValue) (e : Failure) → IsAllocation f env out → (v : Vec ℕ) → e ≡ Faults v →
    ((IsInOrder f out → ⊥) × (v.items ≡ malformed_words))
    ⊎ (IsInOrder f out × (IsFaithful f env out → ⊥) × (es : List (CheckerError Global)) × IsReport f env out es × (v.items ≡ faults_words f out es)) →
    IsAllocateFailure f env e
faulty f env out e allocation v same (inl p) = absurd (p.0 allocation.in_order)
faulty f env out e allocation v same (inr p) = subst (λ x. IsAllocateFailure f env x) (sym same) (out, allocation, p.1, p.2, p.3, p.4)

pub unaccepted : (f : FunctionValue) (env : MachineValue) (out : OutputValue) (e : Failure) → IsAllocation f env out → IsCheckerVerdict f env out e →
    IsAllocateFailure f env e
unaccepted f env out e allocation (inl lost) = subst (λ x. IsAllocateFailure f env x) (sym lost) tt
unaccepted f env out e allocation (inr t) = faulty f env out e allocation t.0 t.1 t.2

-- why a tested run gave nothing
pub untested_as : (f : FunctionValue) (env : MachineValue) (e : TestedRunError) → IsTestedRunReason f env e → IsRunFailure f env (run_failure e)
untested_as f env (RunMisfit m) h = (h.0, h.1)
untested_as f env (TestRefused r) h = (h.0, h.1)
untested_as f env ReadBeforeWritten h = (h.0, h.1, h.2)

-- why the words weren't listed
pub unlisted : (f : FunctionValue) (env : MachineValue) (words : List ℕ) → IsAllocatedOutput f env words → (e : StoredFault) →
    (e ≡ Limit → HasLongWord words) → IsAllocateFailure f env (write_failure e)
unlisted f env words allocated Limit long = (words, allocated, long refl)
unlisted f env words allocated Lengths long = tt
unlisted f env words allocated Index long = tt
unlisted f env words allocated Bits long = tt
unlisted f env words allocated Memory long = tt
unlisted f env words allocated Shape long = tt

pub untested_unlisted : (f : FunctionValue) (env : MachineValue) (words : List ℕ) → IsTestedOutput f env words → (e : StoredFault) →
    (e ≡ Limit → HasLongWord words) → IsRunFailure f env (write_failure e)
untested_unlisted f env words tested Limit long = (words, tested, long refl)
untested_unlisted f env words tested Lengths long = tt
untested_unlisted f env words tested Index long = tt
untested_unlisted f env words tested Bits long = tt
untested_unlisted f env words tested Memory long = tt
untested_unlisted f env words tested Shape long = tt

-- what an input comes to, from what comes of the function and the machine that it names
pub comes_to : (Names : FunctionValue → MachineValue → Type 0) (None : Failure → Type 0) (Are : FunctionValue → MachineValue → List ℕ → Type 0)
    (Why : FunctionValue → MachineValue → Failure → Type 0) (f : FunctionValue) (env : MachineValue) → Names f env → (found : Result (Vec ℕ) Failure) →
    IfOk found (λ v. Are f env v.items) → IfErr found (Why f env) → ResultsIn Names None Are Why found
comes_to Names None Are Why f env names (Ok v) ok err = (f, env, names, ok)
comes_to Names None Are Why f env names (Err e) ok err = inr (f, env, names, err)
