-- Lemmas on moves given out from the last to the first.
use Rattle.std.proofs.Common.{◌≡◌, ℕ, ◌<◌, Bool, true, false, cond, List, [], ◌∷◌, ◌++◌, length, reverse, set, ◌⊎◌, get_or-set_same, get_or-set_other}
use Rattle.std.proofs.Common.{refl, sym, ap, ◌∙◌, inl, inr, ⊎_elim, arith}
use Rattle.std.proofs.lemmas.Grind.{common_steps}
use Rattle.std.proofs.lemmas.Bool.{cases_eq}
use Rattle.std.proofs.lemmas.List.{reverse-append}
use Rattle.regalloc2_names.specs.Place.{Place, NoPlace, is_place}
use Rattle.regalloc2_parts.specs.AtOnce.{Ends}
use Rattle.regalloc2_parts.specs.declared.moves.order.State.{State}
use Rattle.regalloc2_parts.specs.declared.moves.order.State.TheVariants.{Todo, Done}
use Rattle.regalloc2_parts.specs.AtOnce.{CellsOf, moved, in_turn}
use Rattle.regalloc2_parts.proofs.Places.{before_hit, before_miss}
use Rattle.regalloc2_parts.specs.Giving.{from_at, to_at, state_at, place_before, origin, source_but, AreMovesApart, HasGiven}

in_place : {X : Type 0} (b : Bool) (c : CellsOf X) (x y : Place) → cond b (c x) (c y) ≡ c (cond b x y)
in_place true c x y = refl
in_place false c x y = refl

in_turn-push : {X : Type 0} (ms : List Ends) (m : Ends) (c : CellsOf X) (q : Place) → in_turn (ms ++ m ∷ []) c q ≡ in_turn ms c (place_before m q)
unfolding in_turn
in_turn-push [] m c q = in_place (is_place m.to q) c m.from q
in_turn-push (x ∷ ms) m c q = in_turn-push ms m (moved c x.to (c x.from)) q

-- the list run one by one, from its last to its first, takes each cell from its origin
pub in_turn-reverse : {X : Type 0} (ms : List Ends) (c : CellsOf X) (q : Place) → in_turn (reverse ms) c q ≡ c (origin ms q)
unfolding in_turn origin
in_turn-reverse [] c q = refl
in_turn-reverse (m ∷ ms) c q =
    ap (λ xs. in_turn xs c q) (reverse-append (m ∷ []) ms) ∙ in_turn-push (reverse ms) m c q ∙ in_turn-reverse ms c (place_before m q)

-- moves run from the last to the first, so one pushed at the end runs first: each origin goes one step back through it
pub origin-push : (ms : List Ends) (m : Ends) (q : Place) → origin (ms ++ m ∷ []) q ≡ place_before m (origin ms q)
unfolding origin
origin-push [] m q = refl
origin-push (x ∷ ms) m q = origin-push ms m (place_before x q)

-- the move at which a cycle is cut takes its value from the scratch place, written as none
pub source_cut : (cut : ℕ) (ms : List Ends) (k : ℕ) → k ≡ cut → source_but cut ms k ≡ NoPlace
source_cut cut ms k e = grind (arith, common_steps)

-- a move other than the one at the cut takes its value from its own source
pub source_other : (cut : ℕ) (ms : List Ends) (k : ℕ) → (k ≡ cut → ⊥) → source_but cut ms k ≡ from_at ms k
source_other cut ms k n = grind (arith, common_steps)

-- after one more move is set to `Done`, a move in that state is the new one or was `Done` before
pub done_before : (st : List State) (k j : ℕ) → state_at (set st k Done) j ≡ Done → (j ≡ k) ⊎ (state_at st j ≡ Done)
done_before st k j h =
    ⊎_elim (λ e. inl e) (λ n. inr (sym (get_or-set_other st k j Done Todo n) ∙ h)) (cases_eq j k)

-- setting a move to `Done` leaves the moves that were `Done` so
pub done_after : (st : List State) (k j : ℕ) → k < length st → state_at st j ≡ Done → state_at (set st k Done) j ≡ Done
done_after st k j r h =
    ⊎_elim (λ e. ap (λ i. state_at (set st k Done) i) e ∙ get_or-set_same st k Done Todo r) (λ n. get_or-set_other st k j Done Todo n ∙ h) (cases_eq j k)

-- one more move is given out
pub gives_one : (cut k : ℕ) (ms : List Ends) (st : List State) (given : List Ends) (m : Ends) → HasGiven cut ms st given → AreMovesApart ms → k < length ms →
    length st ≡ length ms → (state_at st k ≡ Done → ⊥) → ((j : ℕ) → j < length ms → to_at ms j ≡ source_but cut ms k → state_at st j ≡ Done) →
    m.to ≡ to_at ms k →
    m.from ≡ source_but cut ms k → HasGiven cut ms (set st k Done) (given ++ m ∷ [])
gives_one cut k ms st given m had apart within same open_ next to_is from_is =
    let short : k < length st = omega arith in
    record {
      gave = λ j r done. origin-push given m (to_at ms j) ∙ ⊎_elim
          (λ e.
          let stays : origin given (to_at ms k) ≡ to_at ms k =
          had.kept (to_at ms k) (apart.to_some k within) (λ i inside was is.
          open_ (sym (ap (λ x. state_at st x) (apart.one_writer i k inside within is)) ∙ was)) in
          ap (λ x. place_before m (origin given (to_at ms x))) e ∙ ap (place_before m) stays ∙ before_hit m (to_at ms k) to_is ∙ from_is
          ∙ sym (ap (λ x. source_but cut ms x) e))
          (λ was.
          ap (place_before m) (had.gave j r was) ∙ before_miss m (source_but cut ms j) (λ e.
          open_ (had.closed j k r within was (sym to_is ∙ e))))
          (done_before st k j done);
      kept = λ q real none_to. origin-push given m q ∙
          ap (place_before m) (had.kept q real (λ i inside was. none_to i inside (done_after st k i short was))) ∙
          before_miss m q (λ e. none_to k within (get_or-set_same st k Done Todo short) (sym to_is ∙ e));
      closed = λ j i r inside done is. ⊎_elim
          (λ e. done_after st k i short (next i inside (is ∙ ap (λ x. source_but cut ms x) e)))
          (λ was. done_after st k i short (had.closed j i r inside was is))
          (done_before st k j done);
    }

-- a ring is opened at a move that is not done
pub opens_ring : (cut : ℕ) (ms : List Ends) (st : List State) (given : List Ends) → HasGiven (length ms) ms st given → (state_at st cut ≡ Done → ⊥) →
    HasGiven cut ms st given
opens_ring cut ms st given had open_ =
    let same : (k : ℕ) → k < length ms → state_at st k ≡ Done → source_but (length ms) ms k ≡ source_but cut ms k =
    λ k r done. source_other (length ms) ms k (λ e. absurd (omega arith)) ∙ sym (source_other cut ms k (λ e. open_ (sym (ap (λ x. state_at st x) e) ∙ done))) in
    record {
      gave = λ k r done. had.gave k r done ∙ same k r done;
      kept = had.kept;
      closed = λ k j r inside done is. had.closed k j r inside done (is ∙ sym (same k r done));
    }

-- a ring is closed: what was taken from `none` is put there first
pub closes_ring : (cut : ℕ) (ms : List Ends) (st : List State) (given : List Ends) (m : Ends) → HasGiven cut ms st given → AreMovesApart ms → cut < length ms →
    ((j : ℕ) → j < length ms → to_at ms j ≡ from_at ms cut → state_at st j ≡ Done) → m.to ≡ NoPlace → m.from ≡ from_at ms cut →
    HasGiven (length ms) ms st (given ++ m ∷ [])
closes_ring cut ms st given m had apart within next to_is from_is =
    let whole : (k : ℕ) → k < length ms → source_but (length ms) ms k ≡ from_at ms k =
    λ k r. source_other (length ms) ms k (λ e. absurd (omega arith)) in
    record {
      gave = λ k r done. origin-push given m (to_at ms k) ∙ ap (place_before m) (had.gave k r done) ∙ ⊎_elim
          (λ e. before_hit m (source_but cut ms k) (to_is ∙ sym (source_cut cut ms k e)) ∙ from_is ∙ sym (ap (λ x. from_at ms x) e) ∙ sym (whole k r))
          (λ n. ap (place_before m) (source_other cut ms k n) ∙ before_miss m (from_at ms k) (λ e. apart.from_some k r (sym e ∙ to_is)) ∙ sym (whole k r))
          (cases_eq k cut);
      kept = λ q real none_to. origin-push given m q ∙ ap (place_before m) (had.kept q real none_to) ∙ before_miss m q (λ e. real (sym e ∙ to_is));
      closed = λ k j r inside done is. ⊎_elim
          (λ e. next j inside (is ∙ whole k r ∙ ap (λ x. from_at ms x) e))
          (λ n. had.closed k j r inside done (is ∙ whole k r ∙ sym (source_other cut ms k n)))
          (cases_eq k cut);
    }

-- nothing was given out
pub gives_none : (ms : List Ends) (st : List State) → ((k : ℕ) → k < length ms → state_at st k ≡ Done → ⊥) → HasGiven (length ms) ms st []
unfolding origin
gives_none ms st todo = record {
  gave = λ k r done. absurd (todo k r done);
  kept = λ q real n. refl;
  closed = λ k j r inside done is. absurd (todo k r done);
}
