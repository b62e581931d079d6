use Rattle.std.proofs.Common.{ℕ, ◌≡◌, ◌+◌, List, length, refl, sym, ap, ◌∙◌, subst}
use Rattle.std.proofs.lemmas.Option.{slice_get_read}
use Rattle.std.proofs.lemmas.Result.{IfOk-weaker}
use Rattle.std.specs.Prelude.{slice_get, None, Some}
use Rattle.codegen_machine.specs.Calls.{Calls, Passes, functions_of, passed}
use Rattle.codegen.specs.Run.Runs.{empty_stack}
use Rattle.codegen.specs.Run.States.{act_of, function_of, stack_state}
use Rattle.codegen_machine.specs.declared.NamedCode.{NamedCode}
use Rattle.codegen.specs.declared.run.stack.StackAct.{StackAct}
use Rattle.codegen.proofs.RunLemmas.Stacks.{function_at, step_is}
use Rattle.codegen.proofs.run.stack.Stack.step.Goals as goal

pub returns-in-Some-Call-clause-step : goal.returns-in-Some-Call-clause-step
returns-in-Some-Call-clause-step c =
    let code = c.args.code.now.functions.items in
    let g = c.args.self.now.function in
    let f = c.in-Some.function.now in
    let at : slice_get code g ≡ Some f = subst (λ (xs : List NamedCode). slice_get xs g ≡ Some f) c.deref.ensures.value
    (slice_get_read c.deref.result.now (length c.deref.result.now) g f refl c.in-Some.ensures.lookup.3.0 c.in-Some.ensures.lookup.1) in
    IfOk-weaker c.call.result _ _ (λ r goes n. (
      n + 1,
      step_is (functions_of code) (empty_stack c.args.self.now.room) (stack_state n c.args.self.now) (function_of f) (Some (Calls c.in-Some-Call.callee))
          (function_at code g f at) (sym c.in-Some-Call.ensures.value ∙ ap (λ (a : StackAct). Some (act_of a)) c.in-Some-Call.field-0-is) ∙ goes n,
    )) (rw c.in-Some-Call.field-0-is at c.call.ensures.step)

pub returns-in-Some-Pass-clause-step : goal.returns-in-Some-Pass-clause-step
returns-in-Some-Pass-clause-step c =
    let code = c.args.code.now.functions.items in
    let old = c.args.self.now in
    let g = old.function in
    let f = c.in-Some.function.now in
    let at : slice_get code g ≡ Some f = subst (λ (xs : List NamedCode). slice_get xs g ≡ Some f) c.deref.ensures.value
    (slice_get_read c.deref.result.now (length c.deref.result.now) g f refl c.in-Some.ensures.lookup.3.0 c.in-Some.ensures.lookup.1) in
    let here = function_at code g f at in
    let k = c.in-Some-Pass.index in
    let r = c.in-Some-Pass.from in
    λ n. (
      n,
      step_is (functions_of code) (empty_stack old.room) (stack_state n old) (function_of f) (Some (Passes k r)) here
          (sym c.in-Some-Pass.ensures.value ∙ ap (λ (a : StackAct). Some (act_of a)) c.in-Some-Pass.field-0-is)
          ∙ ap (λ (words : ℕ). passed words (stack_state n old) k r) (sym (c.requires.sound.framed (function_of f) here).1) ∙ (rw c.in-Some-Pass.field-0-is at c.pass.ensures.step n),
    )

pub returns-in-None-clause-step : goal.returns-in-None-clause-step
returns-in-None-clause-step c =
    let code = c.args.code.now.functions.items in
    let g = c.args.self.now.function in
    let f = c.in-Some.function.now in
    let at : slice_get code g ≡ Some f = subst (λ (xs : List NamedCode). slice_get xs g ≡ Some f) c.deref.ensures.value
    (slice_get_read c.deref.result.now (length c.deref.result.now) g f refl c.in-Some.ensures.lookup.3.0 c.in-Some.ensures.lookup.1) in
    λ n. (
      n,
      step_is (functions_of code) (empty_stack c.args.self.now.room) (stack_state n c.args.self.now) (function_of f) None (function_at code g f at)
          (sym c.in-None.ensures.value) ∙ c.step_within.ensures.step n,
    )
