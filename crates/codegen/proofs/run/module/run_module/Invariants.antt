use Rattle.std.proofs.Common.{◌≡◌}
use Rattle.codegen_operation.specs.Numbers.{Running}
use Rattle.codegen.specs.Run.Runs.{module_outcome}
use Rattle.codegen.specs.Run.States.{frames_state}
use Rattle.codegen.proofs.run.module.run_module.Given as goal

abbrev pub invariant-loop-step : goal.invariant-loop-step
invariant-loop-step l = module_outcome l.m l.arguments l.fn.memory.items l._step ≡ Running (frames_state l.frames)
