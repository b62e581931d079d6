-- Lemmas on moves that are run one after another.
use Rattle.std.proofs.Common.{◌≡◌, ◌≢◌, ℕ, suc, ◌<◌, ◌≤◌, List, [], ◌∷◌, length, get_or, reverse, refl, sym, ap, ◌∙◌, ⊎_elim, arith}
use Rattle.std.proofs.lemmas.List.Elements.{All-contains, Contains-get_or}
use Rattle.std.proofs.lemmas.List.{get_or_default}
use Rattle.std.specs.List.{AllPairs, Contains}
use Rattle.regalloc2_names.specs.Place.{Place, NoPlace}
use Rattle.regalloc2_parts.specs.AtOnce.{Ends, no_move, CellsOf, moved, in_turn, AreAtOnce, WritesNoneFirst}
use Rattle.regalloc2_parts.specs.Giving.{to_at, origin, TakesFrom, AreMovesApart, AreNexts, IsTidied, AreFair}
use Rattle.regalloc2_parts.proofs.Places.{cases_place, moved_here, moved_other}
use Rattle.regalloc2_parts.proofs.Orders.{in_turn-reverse}
use Rattle.regalloc2_parts.proofs.Tidying.{tidied_apart, contains_cases, contains_here, contains_there}

-- the later move neither reads nor writes what the earlier one writes
abbrev pub LeavesAlone : Ends → Ends → Type 0
LeavesAlone m n = (n.from ≡ m.to → ⊥) × (n.to ≡ m.to → ⊥)

-- moves run one after another leave a place that none of them writes
pub runs_keep : {X : Type 0} (ms : List Ends) (c : CellsOf X) (q : Place) → ((m : Ends) → Contains ms m → m.to ≡ q → ⊥) → in_turn ms c q ≡ c q
unfolding in_turn
runs_keep [] c q n = refl
runs_keep (x ∷ ms) c q n =
    runs_keep ms (moved c x.to (c x.from)) q (λ m h. n m (contains_there x m ms h)) ∙ moved_other c x.to q (c x.from) (n x (contains_here x ms))

-- moves of which none touches what an earlier one wrote: each destination gets what its source had at first
pub runs_assign : {X : Type 0} (ms : List Ends) (c : CellsOf X) (m : Ends) → AllPairs LeavesAlone ms → Contains ms m → in_turn ms c m.to ≡ c m.from
unfolding in_turn
runs_assign [] c m apart (k, r, e) = absurd (omega arith)
runs_assign (x ∷ ms) c m apart h = ⊎_elim
    (λ same.
    let unwritten : (n : Ends) → Contains ms n → n.to ≡ x.to → ⊥ =
    λ n inside e. let a : LeavesAlone x n = All-contains (LeavesAlone x) ms n (λ k d r. apart 0 (suc k) d (omega arith) (omega arith)) inside in a.1 e in
    ap (λ z. in_turn ms (moved c x.to (c x.from)) z.to) (sym same) ∙ runs_keep ms (moved c x.to (c x.from)) x.to unwritten ∙
    moved_here c x.to x.to (c x.from) refl ∙ ap (λ z. c z.from) same)
    (λ later.
    let a : LeavesAlone x m = All-contains (LeavesAlone x) ms m (λ k d r. apart 0 (suc k) d (omega arith) (omega arith)) later in
    runs_assign ms (moved c x.to (c x.from)) m (λ i j d o r. apart (suc i) (suc j) d (omega arith) (omega arith)) later ∙
    moved_other c x.to m.from (c x.from) (λ e. a.0 (sym e)))
    (contains_cases x m ms h)

-- moves of which none touches what an earlier one wrote do one after another what they do in parallel
pub apart_at_once : {X : Type 0} (ms : List Ends) (c : CellsOf X) → AllPairs LeavesAlone ms → AreAtOnce ms c (in_turn ms c)
apart_at_once ms c apart = record {
  assigned = λ m h. runs_assign ms c m apart h;
  kept = λ q real n. runs_keep ms c q n;
}

-- what was emitted from the last move to the first, run from its end on
pub given_at_once : {X : Type 0} (ms given : List Ends) (c : CellsOf X) → AreMovesApart ms →
    ((q : Place) → (q ≡ NoPlace → ⊥) → TakesFrom ms q (origin given q)) →
    AreAtOnce ms c (in_turn (reverse given) c)
given_at_once ms given c apart takes = record {
  assigned = λ m h.
      let at : (k : ℕ) × (k < length ms) × (get_or ms k m ≡ m) = h in
      let is : get_or ms at.0 no_move ≡ m = get_or_default ms at.0 no_move m at.1 ∙ at.2 in
      let to_is : to_at ms at.0 ≡ m.to = ap (λ (z : Ends). z.to) is in
      let real : m.to ≡ NoPlace → ⊥ = λ e. apart.to_some at.0 at.1 (to_is ∙ e) in
      in_turn-reverse given c m.to ∙ ap c ((takes m.to real).written at.0 at.1 to_is ∙ ap (λ (z : Ends). z.from) is);
  kept = λ q real n. in_turn-reverse given c q ∙ ap c ((takes q real).unwritten (λ k r e. n (get_or ms k no_move) (Contains-get_or ms k no_move r) e));
}

-- what the tidied list does is what the whole list does
pub tidied_at_once : {X : Type 0} (old new : List Ends) (c d : CellsOf X) → AreFair old → IsTidied old new → AreAtOnce new c d → AreAtOnce old c d
tidied_at_once old new c d fair is had = record {
  assigned = λ m h. ⊎_elim
      (λ e. had.kept m.to (fair.real m h).1 (λ n inside f.
      is.away n inside (fair.one_source n m (is.of_old n inside) h f ∙ e ∙ sym f)) ∙ ap c (sym e))
      (λ differs. had.assigned m (is.of_new m h differs))
      (cases_place m.from m.to);
  kept = λ q real n. had.kept q real (λ m inside e. n m (is.of_old m inside) e);
}

-- no move, or one, touches nothing that an earlier one wrote
pub short_apart : (ms : List Ends) → length ms ≤ 1 → AllPairs LeavesAlone ms
short_apart ms short i j d o r = absurd (omega arith)

-- where no source is a destination, no move touches what an earlier one wrote
pub free_apart : (ms : List Ends) (nexts : List ℕ) → AreMovesApart ms → AreNexts ms nexts → ((k : ℕ) → k < length nexts → length nexts ≤ get_or nexts k 0) →
    AllPairs LeavesAlone ms
free_apart ms nexts apart ns past i j d o r =
    let many : length nexts ≡ length ms = ns.as_many in
    let low : i < length ms = omega arith in
    let at_i : get_or ms i d ≡ get_or ms i no_move = get_or_default ms i d no_move low in
    let at_j : get_or ms j d ≡ get_or ms j no_move = get_or_default ms j d no_move r in
    let beyond : length nexts ≤ get_or nexts j 0 = past j (omega arith) in (
      (λ e. ns.absent j r (λ l. omega arith) i low (ap (λ (z : Ends). z.to) (sym at_i) ∙ sym e ∙ ap (λ (z : Ends). z.from) at_j)),
      (λ e. let same : j ≡ i = apart.one_writer j i r low (ap (λ (z : Ends). z.to) (sym at_j) ∙ e ∙ ap (λ (z : Ends). z.to) at_i) in omega arith),
    )

-- what was emitted of the tidied list does what the whole list does
pub ordered_at_once : {X : Type 0} (old new given : List Ends) (c : CellsOf X) → AreFair old → IsTidied old new →
    ((q : Place) → (q ≡ NoPlace → ⊥) → TakesFrom new q (origin given q)) → AreAtOnce old c (in_turn (reverse given) c)
ordered_at_once old new given c fair is takes =
    tidied_at_once old new c (in_turn (reverse given) c) fair is (given_at_once new given c (tidied_apart old new fair is) takes)

-- a list that nowhere names `none` writes it before reading it, if at all
pub written_first : (ms : List Ends) → ((m : Ends) → Contains ms m → (m.from ≢ NoPlace) × (m.to ≢ NoPlace)) → WritesNoneFirst ms
unfolding WritesNoneFirst
written_first [] real = tt
written_first (m ∷ ms) real = ((real m (contains_here m ms)).0, λ n. written_first ms (λ x h. real x (contains_there m x ms h)))
