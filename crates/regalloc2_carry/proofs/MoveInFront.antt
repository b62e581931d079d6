-- The backward walk: what a move that is pushed in front does to what was walked.
use Rattle.std.proofs.Common.{ℕ, suc, ◌≡◌, ◌+◌, ◌*◌, ◌<◌, List, [], ◌∷◌, refl, arith}
use Rattle.regalloc2_names.specs.Place.{Place, before, after}
use Rattle.regalloc2_function.specs.FunctionValue.{InstValue}
use Rattle.regalloc2_function.specs.OutputValue.{MoveValue}
use Rattle.regalloc2_carry.specs.Listing.{Item, exec_item, with_moves}
use Rattle.regalloc2_carry.specs.Listing.Item.{Move}
use Rattle.regalloc2_carry.specs.BlockByPoints.{at_point, walked, AllFrom, after_part, before_part}
use Rattle.regalloc2_carry.proofs.Points.{at_point-here, at_point-other, at_point-none, walked-same}

-- no instruction, and one more
pub walked-none : (insts : ℕ → InstValue) (at : ℕ → List MoveValue) (places : ℕ → List Place) (i : ℕ) → walked insts at places i 0 ≡ []
unfolding walked
walked-none insts at places i = refl

-- a listing by points of one more instruction is the moves before the instruction, the instruction, and what runs after
-- it
pub walked-more : (insts : ℕ → InstValue) (edits : List (ℕ × MoveValue)) (places : ℕ → List Place) (i n : ℕ) →
    walked insts (at_point edits) places i (suc n) ≡ before_part insts edits places i n (exec_item (insts i) (places i))
unfolding walked
walked-more insts edits places i n = refl

-- no moves in front of a listing leave it as it is
pub with_moves-none : (L : List Item) → with_moves [] L ≡ L
unfolding with_moves
with_moves-none L = refl

-- one more move, in front of others and a listing, is the listing's first item
pub with_moves-more : (m : MoveValue) (ms : List MoveValue) (L : List Item) → with_moves (m ∷ ms) L ≡ Move m ∷ with_moves ms L
unfolding with_moves
with_moves-more m ms L = refl

no_moves : (ms : List MoveValue) (L : List Item) → ms ≡ [] → with_moves ms L ≡ L
no_moves ms L e = rw e (with_moves-none L)

-- where nothing was pushed at the point yet
pub after_part-clean : (insts : ℕ → InstValue) (edits : List (ℕ × MoveValue)) (places : ℕ → List Place) (i n : ℕ) → AllFrom (before (i + 1)) edits →
    after_part insts edits places i n ≡ walked insts (at_point edits) places (i + 1) n
after_part-clean insts edits places i n h =
    let e : 2 * (i + 1) ≡ suc (2 * i + 1) = omega arith in
    no_moves (at_point edits (after i)) _ (at_point-none (after i) edits (rw e at h))

-- where no edit has an earlier point than the one after an instruction, the listing begins with the instruction
pub before_part-clean : (insts : ℕ → InstValue) (edits : List (ℕ × MoveValue)) (places : ℕ → List Place) (i n : ℕ) (item : Item) → AllFrom (after i) edits →
    before_part insts edits places i n item ≡ item ∷ after_part insts edits places i n
before_part-clean insts edits places i n item h =
    let e : 2 * i + 1 ≡ suc (2 * i) = omega arith in
    no_moves (at_point edits (before i)) _ (at_point-none (before i) edits (rw e at h))

-- what is walked already stays
pub walked-push : (insts : ℕ → InstValue) (p : ℕ) (m : MoveValue) (edits : List (ℕ × MoveValue)) (places : ℕ → List Place) (i n : ℕ) → p < before i →
    walked insts (at_point ((p, m) ∷ edits)) places i n ≡ walked insts (at_point edits) places i n
walked-push insts p m edits places i n lt =
    walked-same insts (at_point ((p, m) ∷ edits)) (at_point edits) places places i n (λ q le less. at_point-other p q m edits (λ s. omega arith))
    (λ j le less. refl)

-- a move pushed after the instruction, and one before it
pub after_part-push : (insts : ℕ → InstValue) (m : MoveValue) (edits : List (ℕ × MoveValue)) (places : ℕ → List Place) (i n : ℕ) →
    after_part insts ((after i, m) ∷ edits) places i n ≡ Move m ∷ after_part insts edits places i n
after_part-push insts m edits places i n =
    rw (at_point-here (after i) m edits, walked-push insts (after i) m edits places (i + 1) n (omega arith)) (with_moves-more m (at_point edits (after i)) _)

-- a move pushed at the point before an instruction comes first in the listing from there on
pub before_part-push : (insts : ℕ → InstValue) (m : MoveValue) (edits : List (ℕ × MoveValue)) (places : ℕ → List Place) (i n : ℕ) (item : Item) →
    before_part insts ((before i, m) ∷ edits) places i n item ≡ Move m ∷ before_part insts edits places i n item
before_part-push insts m edits places i n item =
    let rest : after_part insts ((before i, m) ∷ edits) places i n ≡ after_part insts edits places i n =
    rw (at_point-other (before i) (after i) m edits (λ s. omega arith), walked-push insts (before i) m edits places (i + 1) n (omega arith)) refl in
    rw (at_point-here (before i) m edits, rest) (with_moves-more m (at_point edits (before i)) _)
