use Rattle.std.proofs.Common.{◌≡◌}
use Rattle.codegen_machine.specs.Meaning.{procedure_run}
use Rattle.codegen_operation.specs.Numbers.{Running}
use Rattle.codegen_machine.specs.Seen.{function_of_procedure, operations}
use Rattle.codegen.specs.Run.Runs.{arguments_of, first_state}
use Rattle.codegen.specs.Run.States.{state_of}
use Rattle.codegen.proofs.run.procedure.run_procedure.Given as goal

abbrev pub invariant-loop-step : goal.invariant-loop-step
invariant-loop-step l = procedure_run (function_of_procedure l.procedure) (operations l.procedure) (arguments_of l.arguments) l._step
    (first_state l.procedure l.fn.memory.items)
    ≡ Running (state_of l.state)
