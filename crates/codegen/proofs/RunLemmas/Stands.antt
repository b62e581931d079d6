-- Outcomes of runs, before and after they end.
use Rattle.std.proofs.Common.{ℕ, zero, suc, ◌≡◌, ◌+◌, ◌-◌, ◌<◌, refl, ap, ◌∙◌, arith}
use Rattle.std.specs.Prelude.{List}
use Rattle.regalloc2_function.specs.FunctionValue.{FunctionValue}
use Rattle.codegen_operation.specs.Numbers.{RunOutcome, Running as runs, further}
use Rattle.codegen_machine.specs.Meaning.{ProcedureState, procedure_run, procedure_step}
use Rattle.codegen_machine.specs.Seen.{Operations}
use Rattle.codegen_machine.specs.Machine.{CodeValue, MachineState, machine_run, machine_step}
use Rattle.codegen.specs.Run.Runs.{run_outcome}
use Rattle.codegen.specs.declared.run.standing.Standing.{Standing}
use Rattle.codegen.specs.declared.run.standing.Standing.TheVariants.{Running, Returned, Trapped, Overflowed, Stuck}

-- a run that is over keeps its outcome, however many steps follow
pub over_stays : {S : Type 0} (r : Standing) (s : S) (m : List ℕ) (go : S → RunOutcome S) → (r ≡ Running → ⊥) →
    further (run_outcome r s m) go ≡ run_outcome r s m
over_stays Running s m go over = absurd (over refl)
over_stays (Returned n) s m go over = refl
over_stays Trapped s m go over = refl
over_stays Overflowed s m go over = refl
over_stays Stuck s m go over = refl

-- a function's run that is over after some steps is over after more
run_stays : (f : FunctionValue) (os : Operations) (args : ℕ → ℕ) (first : ProcedureState) (n k : ℕ) (r : Standing) (s : ProcedureState) →
    (r ≡ Running → ⊥) → procedure_run f os args n first ≡ run_outcome r s s.memory → procedure_run f os args (n + k) first ≡ run_outcome r s s.memory
unfolding procedure_run
run_stays f os args first n zero r s over is = let e : n + 0 ≡ n = omega arith in rw e is
run_stays f os args first n (suc k) r s over is =
    let e : n + suc k ≡ suc (n + k) = omega arith in
    rw e (ap (λ o. further o (procedure_step f os args)) (run_stays f os args first n k r s over is) ∙ over_stays r s s.memory _ over)

-- one more step
pub run_more : (f : FunctionValue) (os : Operations) (args : ℕ → ℕ) (first : ProcedureState) (n : ℕ) (r : Standing) (s t : ProcedureState) →
    procedure_run f os args n first ≡ runs s → procedure_step f os args s ≡ run_outcome r t t.memory →
    procedure_run f os args (n + 1) first ≡ run_outcome r t t.memory
unfolding procedure_run
run_more f os args first n r s t is step =
    let e : n + 1 ≡ suc n = omega arith in
    rw e (ap (λ o. further o (procedure_step f os args)) is ∙ step)

-- a run whose last step ends it, after more steps
pub run_ends : (f : FunctionValue) (os : Operations) (args : ℕ → ℕ) (first : ProcedureState) (n steps : ℕ) (r : Standing) (s t : ProcedureState) →
    n < steps → procedure_run f os args n first ≡ runs s → procedure_step f os args s ≡ run_outcome r t t.memory → (r ≡ Running → ⊥) →
    procedure_run f os args steps first ≡ run_outcome r t t.memory
run_ends f os args first n steps r s t less is step over =
    let e : (n + 1) + (steps - (n + 1)) ≡ steps = omega arith in
    let all = run_stays f os args first (n + 1) (steps - (n + 1)) r t over (run_more f os args first n r s t is step) in
    rw e at all

-- no step
pub run_none : (f : FunctionValue) (os : Operations) (args : ℕ → ℕ) (first : ProcedureState) → procedure_run f os args 0 first ≡ runs first
unfolding procedure_run
run_none f os args first = refl

-- a run of the machine from its first step, if it has more steps to make
pub machine_more : (code : CodeValue) (args : ℕ → ℕ) (n : ℕ) (r : Standing) (s t : MachineState) → 0 < n → machine_step code args s ≡ run_outcome r t t.memory →
    machine_run code args n s ≡ further (run_outcome r t t.memory) (machine_run code args (n - 1))
unfolding machine_run
machine_more code args zero r s t some step = absurd (omega arith)
machine_more code args (suc n) r s t some step =
    let e : suc n - 1 ≡ n = omega arith in
    rw e (ap (λ o. further o (machine_run code args n)) step)

-- a run of the machine without steps
pub machine_none : (code : CodeValue) (args : ℕ → ℕ) (s : MachineState) → machine_run code args 0 s ≡ runs s
unfolding machine_run
machine_none code args s = refl
