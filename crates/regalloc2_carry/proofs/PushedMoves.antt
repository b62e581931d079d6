-- A move in front of a listing, for moves in the order in which they are pushed: the last is listed first.
use Rattle.std.proofs.Common.{ℕ, ◌≡◌, ◌<◌, List, [], ◌∷◌, ◌++◌}
use Rattle.std.proofs.lemmas.List.{reverse-append}
use Rattle.regalloc2_names.specs.Place.{Place, before, after}
use Rattle.regalloc2_function.specs.FunctionValue.{InstValue}
use Rattle.regalloc2_function.specs.OutputValue.{MoveValue}
use Rattle.regalloc2_carry.specs.Listing.{Item}
use Rattle.regalloc2_carry.specs.Listing.Item.{Move}
use Rattle.regalloc2_carry.specs.BlockByPoints.{at_point, walked, after_part, before_part, listed}
use Rattle.regalloc2_carry.proofs.MoveInFront.{walked-push, after_part-push, before_part-push}

-- one more is listed before all others
pub listed-push : (pushed : List (ℕ × MoveValue)) (e : ℕ × MoveValue) → listed (pushed ++ e ∷ []) ≡ e ∷ listed pushed
listed-push pushed e = reverse-append pushed (e ∷ [])

-- one more move after the instruction i
pub after_part-more : (insts : ℕ → InstValue) (m : MoveValue) (pushed : List (ℕ × MoveValue)) (places : ℕ → List Place) (i n : ℕ) →
    after_part insts (listed (pushed ++ (after i, m) ∷ [])) places i n ≡ Move m ∷ after_part insts (listed pushed) places i n
after_part-more insts m pushed places i n = rw (listed-push pushed (after i, m)) (after_part-push insts m (listed pushed) places i n)

-- a move that is pushed before an instruction is listed first before it
pub before_part-more : (insts : ℕ → InstValue) (m : MoveValue) (pushed : List (ℕ × MoveValue)) (places : ℕ → List Place) (i n : ℕ) (item : Item) →
    before_part insts (listed (pushed ++ (before i, m) ∷ [])) places i n item ≡ Move m ∷ before_part insts (listed pushed) places i n item
before_part-more insts m pushed places i n item = rw (listed-push pushed (before i, m)) (before_part-push insts m (listed pushed) places i n item)

-- what was walked before stays
pub walked-pushed : (insts : ℕ → InstValue) (p : ℕ) (m : MoveValue) (pushed : List (ℕ × MoveValue)) (places : ℕ → List Place) (i n : ℕ) → p < before i →
    walked insts (at_point (listed (pushed ++ (p, m) ∷ []))) places i n ≡ walked insts (at_point (listed pushed)) places i n
walked-pushed insts p m pushed places i n lt = rw (listed-push pushed (p, m)) (walked-push insts p m (listed pushed) places i n lt)
