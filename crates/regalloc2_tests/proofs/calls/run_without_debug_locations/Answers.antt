use Rattle.std.proofs.Common.{refl}
use Rattle.regalloc2_tests.proofs.calls.run_without_debug_locations.Goals as goal

pub run-requires-clause-machine : goal.run-requires-clause-machine
run-requires-clause-machine g c = c.if-not-machine_fits.ensures.0 refl
