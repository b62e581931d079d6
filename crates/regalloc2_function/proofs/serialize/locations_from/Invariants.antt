use Rattle.std.proofs.Common.{◌≡◌, map, take}
use Rattle.regalloc2_function.specs.Stored.{stored_location, location_of}
use Rattle.regalloc2_function.proofs.serialize.locations_from.Given as goal

abbrev pub invariant-loop-word : goal.invariant-loop-word
invariant-loop-word g l = map location_of l.locations.items ≡ map stored_location (take l.word-index l.words)
