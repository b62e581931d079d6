use Rattle.std.proofs.Common.{ℕ, ◌≡◌, List, refl, ap, ◌∙◌, subst}
use Rattle.codegen_machine.specs.Calls.{activation_stepped}
use Rattle.codegen_operation.specs.Numbers.{RunOutcome}
use Rattle.codegen_machine.specs.Machine.{MachineState, code_of, machine_step}
use Rattle.codegen.specs.Run.Runs.{arguments_of}
use Rattle.codegen.specs.Run.States.{machine_state, stack_standing, stack_state}
use Rattle.codegen.proofs.run.stack.Stack.step_within.Goals as goal

pub returns-in-Returned-clause-step : goal.returns-in-Returned-clause-step
returns-in-Returned-clause-step c = λ n.
    let old = c.args.self.now in
    subst (λ (xs : List ℕ). activation_stepped (stack_state n old) (machine_step (code_of c.args.function.now.code) (arguments_of xs) (machine_state old.machine))
    ≡ stack_standing n c.give.result c.give.new.self) c.deref.ensures.value
    (ap (λ (o : RunOutcome MachineState). activation_stepped (stack_state n old) o) c.in-Returned.ensures.step ∙ c.give.ensures.step (stack_state n old) refl)
