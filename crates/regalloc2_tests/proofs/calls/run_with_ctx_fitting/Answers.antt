use Rattle.std.proofs.Common.{refl}
use Rattle.regalloc2_tests.proofs.calls.run_with_ctx_fitting.Goals as goal

pub run_with_ctx-requires-clause-machine : goal.run_with_ctx-requires-clause-machine
run_with_ctx-requires-clause-machine g c = c.if-machine_fits.ensures.0 refl
