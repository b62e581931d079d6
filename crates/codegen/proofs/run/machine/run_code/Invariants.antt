use Rattle.std.proofs.Common.{◌≡◌, ◌-◌}
use Rattle.std.specs.Prelude.{vec_len}
use Rattle.codegen_machine.specs.Machine.{code_of, machine_run}
use Rattle.codegen.specs.Run.Runs.{arguments_of, first_machine}
use Rattle.codegen.specs.Run.States.{machine_state}
use Rattle.codegen.proofs.run.machine.run_code.Given as goal

abbrev pub invariant-loop-step : goal.invariant-loop-step
invariant-loop-step l = (vec_len l.machine.frame ≡ l.code.slots)
    × (machine_run (code_of l.code) (arguments_of l.arguments) l.fn.steps (first_machine l.fn.memory.items)
    ≡ machine_run (code_of l.code) (arguments_of l.arguments) (l.fn.steps - l._step) (machine_state l.machine))
