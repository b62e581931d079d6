use Rattle.std.proofs.Common.{refl}
use Rattle.regalloc2_tests.proofs.calls.run_into_ctx_fitting.Goals as goal

pub run_into_ctx-requires-clause-machine : goal.run_into_ctx-requires-clause-machine
run_into_ctx-requires-clause-machine g c = c.if-machine_fits.ensures.0 refl
