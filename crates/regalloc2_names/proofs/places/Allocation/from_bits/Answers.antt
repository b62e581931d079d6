use Rattle.regalloc2_names.specs.PlaceBits.{bits_of_place-place_of_bits}
use Rattle.regalloc2_names.proofs.places.Allocation.from_bits.Goals as goal

pub returns-clause-back : goal.returns-clause-back
returns-clause-back c = bits_of_place-place_of_bits c.args.bits c.requires
