-- The moves of a branch's arguments, as they are pushed: what they do to the listing and to the places.
use Rattle.std.proofs.Common.{ℕ, suc, ◌≡◌, ◌≢◌, Bool, true, false, cond, List, [], ◌∷◌, ◌++◌, refl, sym, ap, ◌∙◌, arith}
use Rattle.std.specs.List.{All}
use Rattle.std.proofs.lemmas.List.{append_assoc, append-nil}
use Rattle.regalloc2_names.specs.Place.{Place, NoPlace, InRegister, InSlot, is_place, before, after}
use Rattle.regalloc2_function.specs.FunctionValue.{InstValue}
use Rattle.regalloc2_function.specs.OutputValue.{MoveValue}
use Rattle.regalloc2_semantics.specs.Runs.{stored, after_moves}
use Rattle.regalloc2_carry.specs.Listing.{Item, exec_item, with_moves}
use Rattle.regalloc2_carry.specs.BlockByPoints.{at_point, walked, listed}
use Rattle.regalloc2_semantics.proofs.Cells.{is_place-other}
use Rattle.regalloc2_carry.proofs.Points.{at_point-here, at_point-other, with_moves-append}
use Rattle.regalloc2_carry.proofs.PushedMoves.{listed-push}
use Rattle.regalloc2_carry.proofs.ListingParts.{walked-one}
use Rattle.regalloc2_parts.specs.AtOnce.{ends_of, own_names, in_turn, moved, in_turn-any}
use Rattle.regalloc2_parts.specs.Resolved.{AreBetweenPlaces}
use Rattle.regalloc2_fastalloc_state.specs.ScratchPool.{Moves, pushed}
use Rattle.regalloc2_semantics.specs.Laws.{Cells}

-- the moves as they are listed
unfoldable pub moves_of : Moves → List MoveValue
moves_of [] = []
moves_of (m ∷ ms) = record { from = m.0; to = m.1 } ∷ moves_of ms

-- the moves are in front of what was listed at the point
pub at_pushed : (point : ℕ) (made : Moves) (es : List (ℕ × MoveValue)) → at_point (listed (es ++ pushed point made)) point ≡ moves_of made
    ++ at_point (listed es) point
unfolding moves_of
at_pushed point [] es = ap (λ l. at_point (listed l) point) (append-nil es)
at_pushed point (m ∷ ms) es =
    let e : ℕ × MoveValue = (point, record { from = m.0; to = m.1 }) in
    ap (λ l. at_point (listed l) point) (sym (append_assoc es (pushed point ms) (e ∷ [])))
    ∙ ap (λ l. at_point l point) (listed-push (es ++ pushed point ms) e)
    ∙ at_point-here point (record { from = m.0; to = m.1 }) (listed (es ++ pushed point ms))
    ∙ ap (λ l. record { from = m.0; to = m.1 } ∷ l) (at_pushed point ms es)

-- at other points nothing changes
pub other_pushed : (point q : ℕ) (made : Moves) (es : List (ℕ × MoveValue)) → (point ≡ q → ⊥) →
    at_point (listed (es ++ pushed point made)) q ≡ at_point (listed es) q
other_pushed point q [] es ne = ap (λ l. at_point (listed l) q) (append-nil es)
other_pushed point q (m ∷ ms) es ne =
    let e : ℕ × MoveValue = (point, record { from = m.0; to = m.1 }) in
    ap (λ l. at_point (listed l) q) (sym (append_assoc es (pushed point ms) (e ∷ [])))
    ∙ ap (λ l. at_point l q) (listed-push (es ++ pushed point ms) e)
    ∙ at_point-other point q (record { from = m.0; to = m.1 }) (listed (es ++ pushed point ms)) ne
    ∙ other_pushed point q ms es ne

-- moves after moves
pub after_append : (ms ns : List MoveValue) (c : Cells) (q : Place) → after_moves (ms ++ ns) c q ≡ after_moves ns (after_moves ms c) q
unfolding after_moves
after_append [] ns c q = refl
after_append (m ∷ ms) ns c q = after_append ms ns (stored c m.to (c m.from)) q

-- the source of what a place holds after the moves
abbrev pub came_from : Moves → Place → Place
came_from made q = in_turn (ends_of made) own_names q

pick : (b : Bool) (c : Cells) (p q : Place) → cond b (c p) (c q) ≡ c (cond b p q)
pick true c p q = refl
pick false c p q = refl

stored_name : (c : Cells) (to from x : Place) → to ≢ NoPlace → stored c to (c from) x ≡ c (cond (is_place to x) from x)
unfolding stored
stored_name c NoPlace from x ne = absurd (ne refl)
stored_name c (InRegister r) from x ne = pick (is_place (InRegister r) x) c from x
stored_name c (InSlot n) from x ne = pick (is_place (InSlot n) x) c from x

came_more : (m : Place × Place × Unit {0}) (ms : Moves) (q : Place) → came_from (m ∷ ms) q ≡ cond (is_place m.1 (came_from ms q)) m.0 (came_from ms q)
unfolding in_turn
came_more m ms q = in_turn-any (ends_of ms) (moved own_names m.1 m.0) q

-- after a list of moves a place holds the value of its source
pub after_made : (made : Moves) → AreBetweenPlaces made → (c : Cells) (q : Place) → after_moves (moves_of made) c q ≡ c (came_from made q)
unfolding after_moves moves_of in_turn
after_made [] h c q = refl
after_made (m ∷ ms) h c q =
    after_made ms (λ k d lt. h (suc k) d (omega arith)) (stored c m.1 (c m.0)) q
    ∙ stored_name c m.1 m.0 (came_from ms q) (h 0 m (omega arith)).1
    ∙ ap c (sym (came_more m ms q))

-- if no move goes to the place, it keeps its value
pub came_own : (made : Moves) (q : Place) → All (λ m. m.1 ≢ q) made → came_from made q ≡ q
unfolding in_turn
came_own [] q h = refl
came_own (m ∷ ms) q h =
    let rest : came_from ms q ≡ q = came_own ms q (λ k d lt. h (suc k) d (omega arith)) in
    let other : is_place m.1 q ≡ false = is_place-other m.1 q (h 0 m (omega arith)) in
    came_more m ms q ∙ ap (λ x. cond (is_place m.1 x) m.0 x) rest ∙ ap (λ b. cond b m.0 q) other

-- the listing from the instruction on, with the moves that were pushed before it
pub walked_made : (insts : ℕ → InstValue) (places : ℕ → List Place) (i : ℕ) (ms : List MoveValue) (es fs : List (ℕ × MoveValue)) →
    at_point (listed fs) (before i) ≡ ms ++ at_point (listed es) (before i) → at_point (listed fs) (after i) ≡ at_point (listed es) (after i) →
    walked insts (at_point (listed fs)) places i 1 ≡ with_moves ms (walked insts (at_point (listed es)) places i 1)
walked_made insts places i ms es fs first then =
    let item : Item = exec_item (insts i) (places i) in
    walked-one insts (at_point (listed fs)) places i
    ∙ ap (λ l. with_moves l (item ∷ with_moves (at_point (listed fs) (after i)) [])) first
    ∙ ap (λ l. with_moves (ms ++ at_point (listed es) (before i)) (item ∷ with_moves l [])) then
    ∙ with_moves-append ms (at_point (listed es) (before i)) (item ∷ with_moves (at_point (listed es) (after i)) [])
    ∙ ap (with_moves ms) (sym (walked-one insts (at_point (listed es)) places i))
