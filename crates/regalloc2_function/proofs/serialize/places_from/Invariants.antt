use Rattle.std.proofs.Common.{◌≡◌, map, take}
use Rattle.regalloc2_names.specs.PlaceBits.{place_of_bits}
use Rattle.regalloc2_function.proofs.serialize.places_from.Given as goal

abbrev pub invariant-loop-bits : goal.invariant-loop-bits
invariant-loop-bits g l = l.places.items ≡ map place_of_bits (take l.bits-index l.words)
