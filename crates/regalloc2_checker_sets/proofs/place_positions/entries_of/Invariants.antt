use Rattle.regalloc2_checker_sets.specs.PlaceEntries.{ArePlaceEntries}
use Rattle.regalloc2_checker_sets.proofs.place_positions.entries_of.Given as goal

abbrev pub invariant-loop-position : goal.invariant-loop-position
invariant-loop-position g l = ArePlaceEntries l.places l.position l.entries.items
