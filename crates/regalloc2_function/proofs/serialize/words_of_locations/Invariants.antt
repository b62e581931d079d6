use Rattle.std.proofs.Common.{◌≡◌, map, take}
use Rattle.std.specs.Prelude.{All}
use Rattle.regalloc2_function.specs.Stored.{stored_location, location_of, NamesLocation}
use Rattle.regalloc2_function.proofs.serialize.words_of_locations.Given as goal

abbrev pub invariant-loop-location : goal.invariant-loop-location
invariant-loop-location g l = record {
  same : map stored_location l.words.items ≡ map location_of (take l.location-index l.locations);
  names : All NamesLocation l.words.items;
}
