use Rattle.std.proofs.Common.{◌≡◌, ℕ, [], ◌∷◌, map, get_or, refl, arith}
use Rattle.std.proofs.lemmas.List.{map-append, take_all}
use Rattle.regalloc2_names.specs.Place.{Place}
use Rattle.regalloc2_function.specs.Stored.{location_of, stored_location}
use Rattle.regalloc2_function.proofs.Copies.{more-of-image}
use Rattle.regalloc2_function.proofs.serialize.locations_from.Goals as goal

pub loop-word-preserved : goal.loop-word-preserved
loop-word-preserved g c =
    let done = c.loop-word.locations.items in
    let words = c.args.words.now in
    let i = c.loop-word.word-index in
    let word : ℕ × ℕ × ℕ × ℕ = get_or words i (0, 0, 0, 0) in
    let one : ℕ × ℕ × ℕ × Place = (word.0, c.from_index-from.result, c.from_index-to.result, c.from_bits.result) in
    let here : location_of one ≡ stored_location word = rw (c.from_index-from.ensures, c.from_index-to.ensures, c.from_bits.ensures.place) refl in
    rw (c.in_ok-push.ensures.items, map-append location_of done (one ∷ []))
    (more-of-image stored_location words (map location_of done) i (0, 0, 0, 0) (location_of one) c.loop-word-test.true here c.loop-word.invariant)

pub from_index-from-requires : goal.from_index-from-requires
from_index-from-requires g c = (c.requires c.loop-word.word-index (0, 0, 0, 0) c.loop-word-test.true).0

pub from_index-to-requires : goal.from_index-to-requires
from_index-to-requires g c = (c.requires c.loop-word.word-index (0, 0, 0, 0) c.loop-word-test.true).1

pub from_bits-requires : goal.from_bits-requires
from_bits-requires g c = (c.requires c.loop-word.word-index (0, 0, 0, 0) c.loop-word-test.true).2

pub returns : goal.returns
returns g c = rw (take_all c.loop-word.word-index c.args.words.now (omega (arith, c.loop-word-test.false))) at c.loop-word.invariant
