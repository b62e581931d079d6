use Rattle.std.proofs.Common.{◌≡◌, ℕ, [], ◌∷◌, map, get_or, refl, arith}
use Rattle.std.proofs.lemmas.List.{map-append, take_all}
use Rattle.regalloc2_function.specs.Stored.{stored_move}
use Rattle.regalloc2_function.specs.Views.{edit_of}
use Rattle.regalloc2_function.specs.declared.listing.Edit.{Edit}
use Rattle.regalloc2_function.specs.declared.listing.Edit.TheVariants.{Move}
use Rattle.regalloc2_function.proofs.Copies.{more-of-image}
use Rattle.regalloc2_function.proofs.serialize.moves_from.Goals as goal

pub loop-word-preserved : goal.loop-word-preserved
loop-word-preserved g c =
    let done = c.loop-word.edits.items in
    let words = c.args.words.now in
    let i = c.loop-word.word-index in
    let one : ℕ × Edit = (c.from_index.result, Move c.from_bits-from.result c.from_bits-to.result) in
    let here : edit_of one ≡ stored_move (get_or words i (0, 0, 0)) =
    rw (c.from_index.ensures, c.from_bits-from.ensures.place, c.from_bits-to.ensures.place) refl in
    rw (c.in_ok-push.ensures.items, map-append edit_of done (one ∷ []))
    (more-of-image stored_move words (map edit_of done) i (0, 0, 0) (edit_of one) c.loop-word-test.true here c.loop-word.invariant)

pub from_index-requires : goal.from_index-requires
from_index-requires g c = (c.requires c.loop-word.word-index (0, 0, 0) c.loop-word-test.true).0

pub from_bits-from-requires : goal.from_bits-from-requires
from_bits-from-requires g c = (c.requires c.loop-word.word-index (0, 0, 0) c.loop-word-test.true).1

pub from_bits-to-requires : goal.from_bits-to-requires
from_bits-to-requires g c = (c.requires c.loop-word.word-index (0, 0, 0) c.loop-word-test.true).2

pub returns : goal.returns
returns g c = rw (take_all c.loop-word.word-index c.args.words.now (omega (arith, c.loop-word-test.false))) at c.loop-word.invariant
