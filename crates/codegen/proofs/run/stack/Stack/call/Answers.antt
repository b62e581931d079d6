use Rattle.std.proofs.lemmas.Result.{IfOk-from_err}
use Rattle.std.proofs.Common.{ℕ, ◌≡◌, ◌+◌, ◌∷◌, ◌++◌, List, length, map, refl, sym, ap, ◌∙◌, subst}
use Rattle.std.proofs.lemmas.Option.{slice_get_read}
use Rattle.std.specs.Prelude.{slice_get, slice_index, Some}
use Rattle.codegen_machine.specs.Calls.{arguments_passed, functions_of, suspended_at}
use Rattle.codegen_operation.specs.Operands.{argument_registers}
use Rattle.codegen.specs.Run.Runs.{arguments_of}
use Rattle.codegen.specs.Run.States.{function_of, stack_state, suspended_of, suspensions_of}
use Rattle.codegen_machine.specs.declared.NamedCode.{NamedCode}
use Rattle.codegen.specs.declared.run.stack.Activation.{Activation}
use Rattle.codegen.proofs.RunLemmas.Modules.{suspensions_pushed}
use Rattle.codegen.proofs.RunLemmas.Stacks.{activation_is, call_overflows, call_runs, function_at, passed_are, sound_called, zeros_are}
use Rattle.codegen.proofs.run.stack.Stack.call.Goals as goal

pub returns-in_default-words_with-clause-step : goal.returns-in_default-words_with-clause-step
returns-in_default-words_with-clause-step c = λ n.
    let code = c.args.code.now.functions.items in
    let g = c.args.callee in
    let f = c.in-Some.function.now in
    let at : slice_get code g ≡ Some f = subst (λ (xs : List NamedCode). slice_get xs g ≡ Some f) c.deref.ensures.value
    (slice_get_read c.deref.result.now (length c.deref.result.now) g f refl c.in-Some.ensures.lookup.3.0 c.in-Some.ensures.lookup.1) in
    call_overflows (functions_of code) (function_of f) g c.args.self.now.room n c.args.self.now c.requires.sound (function_at code g f at)
    (sym c.words_with.ensures ∙ c.in_default-words_with.is)

pub returns-clause-sound : goal.returns-clause-sound
returns-clause-sound c =
    let code = c.args.code.now.functions.items in
    let g = c.args.callee in
    let f = c.in-Some.function.now in
    let old = c.args.self.now in
    let at : slice_get code g ≡ Some f = subst (λ (xs : List NamedCode). slice_get xs g ≡ Some f) c.deref.ensures.value
    (slice_get_read c.deref.result.now (length c.deref.result.now) g f refl c.in-Some.ensures.lookup.3.0 c.in-Some.ensures.lookup.1) in
    let a : Activation = record {
      function = old.function;
      arguments = c.replace.result;
      pc = old.machine.pc + 1;
      frame = c.replace-2.result;
      outgoing = c.replace-3.result;
      registers = old.machine.registers;
    } in
    sound_called (functions_of code) (function_of f) g old _ a c.requires.sound (function_at code g f at) refl (rw c.replace-2.ensures.value refl)
    (rw c.replace-3.ensures.value refl) c.in_ok-push.ensures refl (rw c.replace-2.ensures.after c.in_ok-frame.ensures.len)
    (rw c.replace-3.ensures.after c.in_ok-outgoing.ensures.len)
    (call_runs (functions_of code) (function_of f) g old.room 0 old c.requires.sound (function_at code g f at) c.in-Some-words_with.words
    (sym c.words_with.ensures ∙ c.in-Some-words_with.is)).0

pub returns-clause-step : goal.returns-clause-step
returns-clause-step c = λ n.
    let code = c.args.code.now.functions.items in
    let g = c.args.callee in
    let f = c.in-Some.function.now in
    let old = c.args.self.now in
    let at : slice_get code g ≡ Some f = subst (λ (xs : List NamedCode). slice_get xs g ≡ Some f) c.deref.ensures.value
    (slice_get_read c.deref.result.now (length c.deref.result.now) g f refl c.in-Some.ensures.lookup.3.0 c.in-Some.ensures.lookup.1) in
    let a : Activation = record {
      function = old.function;
      arguments = c.replace.result;
      pc = old.machine.pc + 1;
      frame = c.replace-2.result;
      outgoing = c.replace-3.result;
      registers = old.machine.registers;
    } in
    let is : suspended_of a ≡ suspended_at (stack_state n old) = rw (c.replace.ensures.value, c.replace-2.ensures.value, c.replace-3.ensures.value) refl in
    let given : arguments_of c.replace.new.dest.items ≡ arguments_passed (stack_state n old) =
    rw c.replace.ensures.after (ap arguments_of c.in_ok-arguments.ensures.items
    ∙ ap (λ (os : List ℕ). arguments_of (map (λ r. slice_index old.machine.registers r) argument_registers ++ os)) c.deref-2.ensures.value
    ∙ passed_are old.machine.registers old.outgoing.items) in
    let frame : ◌≡◌ {A = ℕ → ℕ} (λ k. 0) (λ k. slice_index c.replace-2.new.dest.items k) =
    rw c.replace-2.ensures.after (zeros_are f.code.slots ∙ ap arguments_of (sym c.in_ok-frame.ensures.items)) in
    let outgoing : ◌≡◌ {A = ℕ → ℕ} (λ k. 0) (λ k. slice_index c.replace-3.new.dest.items k) =
    rw c.replace-3.ensures.after (zeros_are f.code.outgoing ∙ ap arguments_of (sym c.in_ok-outgoing.ensures.items)) in
    let callers : suspensions_of c.push.new.activations.items ≡ suspended_at (stack_state n old) ∷ suspensions_of old.callers.items =
    ap suspensions_of c.in_ok-push.ensures ∙ suspensions_pushed old.callers.items a ∙ ap (λ x. x ∷ suspensions_of old.callers.items) is in
    (call_runs (functions_of code) (function_of f) g old.room n old c.requires.sound (function_at code g f at) c.in-Some-words_with.words
    (sym c.words_with.ensures ∙ c.in-Some-words_with.is)).1
    ∙ activation_is (functions_of code) g n (arguments_passed (stack_state n old)) (arguments_of c.replace.new.dest.items) _
    (λ k. slice_index c.replace-2.new.dest.items k) (λ k. slice_index c.replace-3.new.dest.items k) old.machine.memory.items _
    (suspensions_of c.push.new.activations.items) old.room (sym given) (zeros_are 16) frame outgoing (sym callers)

pub returns-in_err-arguments : goal.returns-in_err-arguments
returns-in_err-arguments c = record {
  sound = IfOk-from_err c.from_residual.result _ c.from_residual.ensures.0;
  room = IfOk-from_err c.from_residual.result _ c.from_residual.ensures.0;
  step = IfOk-from_err c.from_residual.result _ c.from_residual.ensures.0;
}

pub returns-in_err-frame : goal.returns-in_err-frame
returns-in_err-frame c = record {
  sound = IfOk-from_err c.from_residual-in_err-frame.result _ c.from_residual-in_err-frame.ensures.0;
  room = IfOk-from_err c.from_residual-in_err-frame.result _ c.from_residual-in_err-frame.ensures.0;
  step = IfOk-from_err c.from_residual-in_err-frame.result _ c.from_residual-in_err-frame.ensures.0;
}

pub returns-in_err-outgoing : goal.returns-in_err-outgoing
returns-in_err-outgoing c = record {
  sound = IfOk-from_err c.from_residual-in_err-outgoing.result _ c.from_residual-in_err-outgoing.ensures.0;
  room = IfOk-from_err c.from_residual-in_err-outgoing.result _ c.from_residual-in_err-outgoing.ensures.0;
  step = IfOk-from_err c.from_residual-in_err-outgoing.result _ c.from_residual-in_err-outgoing.ensures.0;
}

pub returns-in_err-push : goal.returns-in_err-push
returns-in_err-push c = record {
  sound = IfOk-from_err c.from_residual-in_err-push.result _ c.from_residual-in_err-push.ensures.0;
  room = IfOk-from_err c.from_residual-in_err-push.result _ c.from_residual-in_err-push.ensures.0;
  step = IfOk-from_err c.from_residual-in_err-push.result _ c.from_residual-in_err-push.ensures.0;
}
