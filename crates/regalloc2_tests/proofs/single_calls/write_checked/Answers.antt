use Rattle.std.proofs.Common.{refl}
use Rattle.regalloc2_tests.proofs.single_calls.write_checked.Goals as goal

pub run_checked-requires-clause-machine : goal.run_checked-requires-clause-machine
run_checked-requires-clause-machine g c = c.if-not-machine_fits.ensures.0 refl

pub places_are_cells-cells-requires : goal.places_are_cells-cells-requires
places_are_cells-cells-requires g c = record { in_order = c.in-Ok.ensures.allocation.in_order }
