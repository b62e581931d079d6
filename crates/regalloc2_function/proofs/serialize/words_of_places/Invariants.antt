use Rattle.std.proofs.Common.{◌≡◌, map, take}
use Rattle.std.specs.Prelude.{All}
use Rattle.regalloc2_names.specs.PlaceBits.{place_of_bits, IsPlaceBits}
use Rattle.regalloc2_function.proofs.serialize.words_of_places.Given as goal

abbrev pub invariant-loop-place : goal.invariant-loop-place
invariant-loop-place g l = record {
  same : map place_of_bits l.words.items ≡ take l.place-index l.places;
  names : All IsPlaceBits l.words.items;
}
