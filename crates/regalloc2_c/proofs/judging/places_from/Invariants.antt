use Rattle.std.proofs.Common.{◌≡◌, map, take}
use Rattle.std.specs.Prelude.{All}
use Rattle.regalloc2.specs.PlaceBits.{IsPlaceBits, place_of_bits}
use Rattle.regalloc2_c.proofs.judging.places_from.Given as goal

abbrev pub invariant-loop-bits : goal.invariant-loop-bits
invariant-loop-bits l = record {
  places : l.places.items ≡ map place_of_bits (take l.bits-index l.words);
  names : All IsPlaceBits (take l.bits-index l.words);
}
