use Rattle.std.proofs.Common.{ℕ, ◌≡◌, ◌-◌}
use Rattle.codegen_machine.specs.Calls.{functions_of, stack_run}
use Rattle.codegen.specs.Run.Runs.{empty_stack, stack_outcome}
use Rattle.codegen.specs.Run.States.{IsSound, stack_state}
use Rattle.codegen.proofs.run.stack.run_module_code.Given as goal

abbrev pub invariant-loop-step : goal.invariant-loop-step
invariant-loop-step l = (n : ℕ) × IsSound (functions_of l.code.functions.items) l.stack × (l.stack.room ≡ l.fn.room)
    × (stack_outcome l.code l.fn.room l.arguments l.fn.memory.items l.fn.steps
    ≡ stack_run (functions_of l.code.functions.items) (empty_stack l.fn.room) (l.fn.steps - l._step) (stack_state n l.stack))
