use Rattle.std.proofs.Common.{refl}
use Rattle.regalloc2_bench.proofs.task.is_performed.Goals as goal

pub run-requires-clause-machine : goal.run-requires-clause-machine
run-requires-clause-machine g c = c.if-not-machine_fits.ensures.0 refl

pub is_repeated-requires-clause-machine : goal.is_repeated-requires-clause-machine
is_repeated-requires-clause-machine g c = c.if-not-machine_fits.ensures.0 refl
