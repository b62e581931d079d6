-- Runs of modules and of their code, step by step, and stacks of suspended frames, the newest last.
use Rattle.std.proofs.Common.{ℕ, zero, suc, ◌≡◌, ◌+◌, ◌-◌, ◌<◌, List, [], ◌∷◌, ◌++◌, map, Some, refl, sym, ap, ◌∙◌, arith}
use Rattle.std.proofs.lemmas.List.{reverse-append}
use Rattle.std.proofs.lemmas.Option.{slice_get-map}
use Rattle.std.specs.Option.{option_map}
use Rattle.std.specs.Prelude.{slice_get, slice_index}
use Rattle.regalloc2_names.specs.Register.{VirtualRegister}
use Rattle.regalloc2_semantics.specs.Runs.{first_of}
use Rattle.codegen_machine.specs.Calls.{FunctionCode, Stack, StackState, stack_run, stack_step}
use Rattle.codegen_machine.specs.Frames.{CallValue, ModuleState, SuspendedFrame, frame_called, frame_entered, module_run, module_step, suspended}
use Rattle.codegen_machine.specs.Modules.{procedures_of}
use Rattle.codegen_machine.specs.Seen.{function_of_procedure}
use Rattle.codegen_operation.specs.Numbers.{RunOutcome, Running as runs, Returned as returned, Trapped as traps, Overflowed as overflows, Stuck as sticks, further}
use Rattle.codegen.specs.Run.Runs.{arguments_of, first_state, run_outcome}
use Rattle.codegen.specs.Run.States.{frame_of, frames_of, suspended_of, suspensions_of}
use Rattle.codegen_machine.specs.declared.module.NamedProcedure.{NamedProcedure}
use Rattle.codegen_machine.specs.declared.procedure.Procedure.{Procedure}
use Rattle.codegen.specs.declared.run.frame.Frame.{Frame}
use Rattle.codegen.specs.declared.run.stack.Activation.{Activation}
use Rattle.codegen.specs.declared.run.standing.Standing.{Standing}
use Rattle.codegen.specs.declared.run.standing.Standing.TheVariants.{Running}
use Rattle.codegen.proofs.RunLemmas.Stands.{over_stays}

-- the newest of suspended frames
pub frames_pushed : (fs : List Frame) (f : Frame) → frames_of (fs ++ f ∷ []) ≡ frame_of f ∷ frames_of fs
frames_pushed fs f = ap (map frame_of) (reverse-append fs (f ∷ []))

pub suspensions_pushed : (xs : List Activation) (a : Activation) → suspensions_of (xs ++ a ∷ []) ≡ suspended_of a ∷ suspensions_of xs
suspensions_pushed xs a = ap (map suspended_of) (reverse-append xs (a ∷ []))

-- a procedure is entered, if it is there
pub enters : (ps : List NamedProcedure) (g : ℕ) (p : NamedProcedure) (args : ℕ → ℕ) (memory : List ℕ) (callers : List SuspendedFrame) → slice_get ps g ≡ Some p →
    frame_entered (λ v. 0) g args memory callers (slice_get (procedures_of ps) g)
    ≡ runs (record { procedure = g; args = args; state = first_state p.procedure memory; callers = callers })
enters ps g p args memory callers at =
    ap (frame_entered (λ v. 0) g args memory callers)
    (slice_get-map (λ (q : NamedProcedure). q.procedure) ps g ∙ ap (option_map (λ (q : NamedProcedure). q.procedure)) at)

-- a call, given the parts of the new frame
pub called_is : (ps : List NamedProcedure) (p : NamedProcedure) (s : ModuleState) (call : CallValue) (given : List ℕ) (inst : ℕ) (numbers : VirtualRegister → ℕ)
    (callers : List SuspendedFrame) → slice_get ps call.function ≡ Some p → given ≡ map (λ v. s.state.numbers v) call.arguments →
    inst ≡ (first_of (function_of_procedure p.procedure) 0).inst → numbers ≡ (λ v. 0) → callers ≡ suspended s call.to ∷ s.callers →
    frame_called (procedures_of ps) (λ v. 0) s call ≡ runs (record {
      procedure = call.function;
      args = arguments_of given;
      state = record { at = record { block = 0; inst = inst }; numbers = numbers; memory = s.state.memory };
      callers = callers;
    })
called_is ps p s call given inst numbers callers at passed first none pushed =
    enters ps call.function p (λ k. slice_index (map (λ v. s.state.numbers v) call.arguments) k) s.state.memory (suspended s call.to ∷ s.callers) at
    ∙ (λ i. runs (record {
      procedure = call.function;
      args = arguments_of (sym passed i);
      state = record { at = record { block = 0; inst = sym first i }; numbers = sym none i; memory = s.state.memory };
      callers = sym pushed i;
    }))

-- three runs, one after another
further_thrice : {S : Type 0} (o : RunOutcome S) (f g : S → RunOutcome S) → further o (λ s. further (f s) g) ≡ further (further o f) g
further_thrice (runs s) f g = refl
further_thrice (returned n memory) f g = refl
further_thrice (traps memory) f g = refl
further_thrice overflows f g = refl
further_thrice sticks f g = refl

module _ (procedures : List Procedure) (fresh : VirtualRegister → ℕ) (first : RunOutcome ModuleState) where
  -- the outcome after a number of steps
  abbrev after : ℕ → RunOutcome ModuleState
  after n = further first (module_run procedures fresh n)

  after_more : (n : ℕ) → after (n + 1) ≡ further (after n) (module_step procedures fresh)
  unfolding module_run
  after_more n =
      let e : n + 1 ≡ suc n = omega arith in
      rw e (further_thrice first (module_run procedures fresh n) (module_step procedures fresh))

  -- no step
  pub module_none : (s : ModuleState) → first ≡ runs s → after 0 ≡ runs s
  unfolding module_run
  module_none s is = ap (λ (o : RunOutcome ModuleState). further o (module_run procedures fresh 0)) is

  -- one more step
  pub module_more : (n : ℕ) (r : Standing) (s t : ModuleState) (m : List ℕ) → after n ≡ runs s → module_step procedures fresh s ≡ run_outcome r t m →
      after (n + 1) ≡ run_outcome r t m
  module_more n r s t m is step = after_more n ∙ ap (λ (o : RunOutcome ModuleState). further o (module_step procedures fresh)) is ∙ step

  -- a run that is over stays over
  module_stays : (n k : ℕ) (r : Standing) (t : ModuleState) (m : List ℕ) → (r ≡ Running → ⊥) → after n ≡ run_outcome r t m → after (n + k) ≡ run_outcome r t m
  module_stays n zero r t m over is = let e : n + 0 ≡ n = omega arith in rw e is
  module_stays n (suc k) r t m over is =
      let e : n + suc k ≡ (n + k) + 1 = omega arith in
      rw e (after_more (n + k) ∙ ap (λ (o : RunOutcome ModuleState). further o (module_step procedures fresh)) (module_stays n k r t m over is)
      ∙ over_stays r t m (module_step procedures fresh) over)

  -- the last step
  pub module_ends : (n steps : ℕ) (r : Standing) (s t : ModuleState) (m : List ℕ) → n < steps → after n ≡ runs s →
      module_step procedures fresh s ≡ run_outcome r t m → (r ≡ Running → ⊥) → after steps ≡ run_outcome r t m
  module_ends n steps r s t m less is step over =
      let e : (n + 1) + (steps - (n + 1)) ≡ steps = omega arith in
      let all = module_stays (n + 1) (steps - (n + 1)) r t m over (module_more n r s t m is step) in
      rw e at all

module _ (functions : List FunctionCode) (stack : Stack) where
  -- a run of code from its first step, if it has more steps to make
  pub stack_more : (n : ℕ) (o : RunOutcome StackState) (s : StackState) → 0 < n → stack_step functions stack s ≡ o →
      stack_run functions stack n s ≡ further o (stack_run functions stack (n - 1))
  unfolding stack_run
  stack_more zero o s some step = absurd (omega arith)
  stack_more (suc n) o s some step =
      let e : suc n - 1 ≡ n = omega arith in
      rw e (ap (λ x. further x (stack_run functions stack n)) step)

  -- a run of code without steps
  pub stack_none : (s : StackState) → stack_run functions stack 0 s ≡ runs s
  unfolding stack_run
  stack_none s = refl
