use Rattle.std.proofs.lemmas.Result.{IfOk-from_err}
use Rattle.std.proofs.Common.{ℕ, ◌≡◌, ◌+◌, ◌-◌, [], List, length, refl, sym, ap, ◌∙◌, subst, arith}
use Rattle.std.proofs.lemmas.Option.{slice_get_past, slice_get_read}
use Rattle.std.specs.Prelude.{slice_get, None, Some}
use Rattle.codegen_machine.specs.Calls.{StackState, functions_of, stack_run, stack_step}
use Rattle.codegen_operation.specs.Numbers.{RunOutcome, further}
use Rattle.codegen.specs.Run.Runs.{arguments_of, empty_stack, first_machine, run_outcome}
use Rattle.codegen.specs.Run.States.{function_of, machine_state, stack_standing, stack_state, suspensions_of}
use Rattle.codegen_machine.specs.declared.NamedCode.{NamedCode}
use Rattle.codegen.proofs.RunLemmas.Modules.{stack_more, stack_none}
use Rattle.codegen.proofs.RunLemmas.Stands.{over_stays}
use Rattle.codegen.proofs.RunLemmas.Stacks.{begun_as, begun_overflows, begun_runs, begun_sticks, first_sound, function_at, function_none, zeros_are}
use Rattle.codegen.proofs.run.stack.run_module_code.Goals as goal

pub returns-in_default : goal.returns-in_default
returns-in_default c =
    let code = c.args.code.now.functions.items in
    let none : slice_get code 0 ≡ None = subst (λ (xs : List NamedCode). slice_get xs 0 ≡ None) c.deref.ensures.value
    (slice_get_past c.deref.result.now 0 c.in_default.ensures.lookup.3) in (
      record { function = 0; args = λ k. 0; state = first_machine c.args.memory.items; outgoing = λ k. 0; callers = []; activations = 0 },
      refl,
      ap (λ (o : RunOutcome StackState). further o (stack_run (functions_of code) (empty_stack c.args.room) c.args.steps))
          (begun_sticks (functions_of code) c.args.room (arguments_of c.args.arguments.now) c.args.memory.items (function_none code 0 none)),
    )

pub returns-in_default-words_with : goal.returns-in_default-words_with
returns-in_default-words_with c =
    let code = c.args.code.now.functions.items in
    let f = c.in-Some.function.now in
    let at : slice_get code 0 ≡ Some f = subst (λ (xs : List NamedCode). slice_get xs 0 ≡ Some f) c.deref.ensures.value
    (slice_get_read c.deref.result.now (length c.deref.result.now) 0 f refl c.in-Some.ensures.lookup.3.0 c.in-Some.ensures.lookup.1) in (
      record { function = 0; args = λ k. 0; state = first_machine c.args.memory.items; outgoing = λ k. 0; callers = []; activations = 0 },
      refl,
      ap (λ (o : RunOutcome StackState). further o (stack_run (functions_of code) (empty_stack c.args.room) c.args.steps))
          (begun_overflows (functions_of code) (function_of f) c.args.room (arguments_of c.args.arguments.now) c.args.memory.items (function_at code 0 f at)
          (sym c.words_with.ensures ∙ c.in_default-words_with.is)),
    )

pub loop-step-init : goal.loop-step-init
loop-step-init c =
    let code = c.args.code.now.functions.items in
    let f = c.in-Some.function.now in
    let at : slice_get code 0 ≡ Some f = subst (λ (xs : List NamedCode). slice_get xs 0 ≡ Some f) c.deref.ensures.value
    (slice_get_read c.deref.result.now (length c.deref.result.now) 0 f refl c.in-Some.ensures.lookup.3.0 c.in-Some.ensures.lookup.1) in
    let begun = begun_runs (functions_of code) (function_of f) c.args.room (arguments_of c.args.arguments.now) c.args.memory.items (function_at code 0 f at)
    c.in-Some-words_with.words (sym c.words_with.ensures ∙ c.in-Some-words_with.is) in
    let none : [] ≡ suspensions_of c.new-2.result.items = rw c.new-2.ensures.items refl in
    let all : c.args.steps ≡ c.args.steps - 0 = omega arith in (
      1,
      first_sound (functions_of code) (function_of f) _ (function_at code 0 f at) refl c.new-2.ensures.items begun.0 c.in_ok-machine.ensures.frame
          c.in_ok-outgoing.ensures.len,
      refl,
      ap (λ (o : RunOutcome StackState). further o (stack_run (functions_of code) (empty_stack c.args.room) c.args.steps))
          (begun.1 ∙ begun_as (functions_of code) c.args.room (arguments_of c.args.arguments.now) (arguments_of c.in_ok-given.given.items)
          (arguments_of c.in_ok-outgoing.outgoing.items) c.args.memory.items
          (machine_state c.in_ok-machine.machine) (suspensions_of c.new-2.result.items) (ap arguments_of (sym c.in_ok-given.ensures))
          (sym c.in_ok-machine.ensures.state) (zeros_are f.code.outgoing ∙ ap arguments_of (sym c.in_ok-outgoing.ensures.items)) none)
          ∙ ap (λ (n : ℕ). stack_run (functions_of code) (empty_stack c.args.room) n (record {
            function = 0;
            args = arguments_of c.in_ok-given.given.items;
            state = machine_state c.in_ok-machine.machine;
            outgoing = arguments_of c.in_ok-outgoing.outgoing.items;
            callers = suspensions_of c.new-2.result.items;
            activations = 1;
          })) all,
    )

pub returns-in_default-standing : goal.returns-in_default-standing
returns-in_default-standing c =
    let fs = functions_of c.args.code.now.functions.items in
    let room = c.args.room in
    let left = c.args.steps - c.loop-step._step in
    let old = c.loop-step.stack in
    let n = c.loop-step.invariant.0 in
    let new = c.step.new.self in
    let r = c.in_ok-standing.standing in
    let k = c.in_ok-standing.ensures.step n in
    let step : stack_step fs (empty_stack room) (stack_state n old) ≡ stack_standing k.0 r new =
    subst (λ (q : ℕ). stack_step fs (empty_stack q) (stack_state n old) ≡ stack_standing k.0 r new) c.loop-step.invariant.2 k.1 in (
      stack_state k.0 new,
      refl,
      c.loop-step.invariant.3
          ∙ stack_more fs (empty_stack room) left (stack_standing k.0 r new) (stack_state n old) (omega (arith, c.loop-step-test.true)) step
          ∙ over_stays r (stack_state k.0 new) new.machine.memory.items (stack_run fs (empty_stack room) (left - 1)) c.in_default-standing.not-Running,
    )

pub loop-step-preserved : goal.loop-step-preserved
loop-step-preserved c =
    let fs = functions_of c.args.code.now.functions.items in
    let room = c.args.room in
    let left = c.args.steps - c.loop-step._step in
    let old = c.loop-step.stack in
    let n = c.loop-step.invariant.0 in
    let new = c.step.new.self in
    let r = c.in_ok-standing.standing in
    let k = c.in_ok-standing.ensures.step n in
    let next : left - 1 ≡ c.args.steps - (c.loop-step._step + 1) = omega arith in
    let step : stack_step fs (empty_stack room) (stack_state n old) ≡ stack_standing k.0 r new =
    subst (λ (q : ℕ). stack_step fs (empty_stack q) (stack_state n old) ≡ stack_standing k.0 r new) c.loop-step.invariant.2 k.1 in (
      k.0,
      c.in_ok-standing.ensures.sound,
      c.in_ok-standing.ensures.room ∙ c.loop-step.invariant.2,
      c.loop-step.invariant.3
          ∙ stack_more fs (empty_stack room) left (stack_standing k.0 r new) (stack_state n old) (omega (arith, c.loop-step-test.true)) step
          ∙ ap (λ x. further (run_outcome x (stack_state k.0 new) new.machine.memory.items) (stack_run fs (empty_stack room) (left - 1))) c.in-Running.is
          ∙ ap (λ (m : ℕ). stack_run fs (empty_stack room) m (stack_state k.0 new)) next,
    )

pub returns : goal.returns
returns c =
    let fs = functions_of c.args.code.now.functions.items in
    let none : c.args.steps - c.loop-step._step ≡ 0 = omega (arith, c.loop-step-test.false) in
    let last = stack_state c.loop-step.invariant.0 c.loop-step.stack in (
      last,
      refl,
      c.loop-step.invariant.3
          ∙ ap (λ (n : ℕ). stack_run fs (empty_stack c.args.room) n last) none ∙ stack_none fs (empty_stack c.args.room) last,
    )

pub returns-in_err-machine : goal.returns-in_err-machine
returns-in_err-machine c = IfOk-from_err c.from_residual-in_err-machine.result _ c.from_residual-in_err-machine.ensures.0

pub returns-in_err-given : goal.returns-in_err-given
returns-in_err-given c = IfOk-from_err c.from_residual.result _ c.from_residual.ensures.0

pub returns-in_err-outgoing : goal.returns-in_err-outgoing
returns-in_err-outgoing c = IfOk-from_err c.from_residual-in_err-outgoing.result _ c.from_residual-in_err-outgoing.ensures.0

pub returns-in_err-standing : goal.returns-in_err-standing
returns-in_err-standing c = IfOk-from_err c.from_residual-in_err-standing.result _ c.from_residual-in_err-standing.ensures.0
