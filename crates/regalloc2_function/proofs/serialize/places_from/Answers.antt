use Rattle.std.proofs.Common.{arith}
use Rattle.std.proofs.lemmas.List.{take_all}
use Rattle.regalloc2_names.specs.PlaceBits.{place_of_bits}
use Rattle.regalloc2_function.proofs.Copies.{more-of-image}
use Rattle.regalloc2_function.proofs.serialize.places_from.Goals as goal

pub loop-bits-preserved : goal.loop-bits-preserved
loop-bits-preserved g c =
    rw c.in_ok-push.ensures.items (more-of-image place_of_bits c.args.words.now c.loop-bits.places.items c.loop-bits.bits-index 0 c.from_bits.result
    c.loop-bits-test.true c.from_bits.ensures.place c.loop-bits.invariant)

pub from_bits-requires : goal.from_bits-requires
from_bits-requires g c = c.requires c.loop-bits.bits-index 0 c.loop-bits-test.true

pub returns : goal.returns
returns g c = rw (take_all c.loop-bits.bits-index c.args.words.now (omega (arith, c.loop-bits-test.false))) at c.loop-bits.invariant
