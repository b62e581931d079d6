-- Lemmas on all moves given out.
use Rattle.std.proofs.Common.{◌≡◌, ℕ, ◌+◌, ◌<◌, ◌≤◌, List, [], length, replicate, sym, ap, ◌∙◌, subst, ⊎_elim, arith}
use Rattle.std.proofs.lemmas.Bool.{cases_lt}
use Rattle.std.specs.List.{count_by}
use Rattle.std.proofs.lemmas.List.Elements.{All-nil}
use Rattle.std.proofs.lemmas.List.{get_or-replicate, get_or_past, length-replicate}
use Rattle.regalloc2_names.specs.Place.{Place, NoPlace}
use Rattle.regalloc2_parts.specs.AtOnce.{Ends, WritesNoneFirst}
use Rattle.regalloc2_parts.specs.declared.moves.order.State.{State}
use Rattle.regalloc2_parts.specs.declared.moves.order.State.TheVariants.{Todo, Pending, Done}
use Rattle.regalloc2_parts.specs.Giving.{state_at, number_at, origin, HasGiven, HasGivenWhole, HasRings, IsOrder, is_done, IsNextDone, LeadsTo}
use Rattle.regalloc2_parts.specs.Giving.{HasGoneOn, IsGivenOut, AreSameDone, HasNonePending, TakesFrom}
use Rattle.regalloc2_parts.proofs.Orders.{source_other, gives_none}
use Rattle.regalloc2_parts.proofs.Chains.{todo_done, todo_pending, is_done_else}
use Rattle.regalloc2_parts.proofs.Rings.{rings_same, rings_none, count_same, count_all}

-- what emitted moves are known to do depends on which moves are `Done` alone
pub had_along : (cut : ℕ) (ms : List Ends) (old st : List State) (given : List Ends) → HasGiven cut ms old given → AreSameDone old st → HasGiven cut ms st given
had_along cut ms old st given had same = record {
  gave = λ k r done. had.gave k r (same.was k done);
  kept = λ q real n. had.kept q real (λ k r done. n k r (same.stays k done));
  closed = λ k j r inside done is. same.stays j (had.closed k j r inside (same.was k done) is);
}

-- the whole invariant of emission depends on which moves are `Done` alone, where moves that aren't `Todo` stay so
pub whole_along : (ms : List Ends) (nexts : List ℕ) (old st : List State) (given : List Ends) → HasGivenWhole ms nexts old given → AreSameDone old st →
    HasGoneOn old st → length st ≡ length old → HasGivenWhole ms nexts st given
whole_along ms nexts old st given had same on many = record {
  had = had_along (length ms) ms old st given had.had same;
  rings = rings_same nexts old st (length given) had.rings same on (count_same old st many same);
  written = had.written;
  plain = λ e. had.plain (e ∙ count_same old st many same);
}

-- the last move's next is done where no ring is
pub start_ready : (nexts : List ℕ) (st : List State) (chain : List ℕ) (stop : ℕ) → LeadsTo nexts chain stop →
    (stop < length nexts → state_at st stop ≡ Todo → ⊥) → (stop < length nexts → state_at st stop ≡ Pending → ⊥) → (i : ℕ) → i + 1 ≡ length chain →
    IsNextDone nexts st (number_at chain i)
start_ready nexts st chain stop leads no_todo no_pending i e within =
    let is : number_at nexts (number_at chain i) ≡ stop = leads i e in
    let low : stop < length nexts = subst (λ x. x < length nexts) is within in
    ap (λ x. state_at st x) is ∙ is_done_else (state_at st stop) (no_todo low) (no_pending low)

-- before anything is emitted each move is `Todo`
pub all_todo : (n k : ℕ) → state_at (replicate n Todo) k ≡ Todo
all_todo n k = ⊎_elim
    (λ l. get_or-replicate n k Todo Todo l)
    (λ h. get_or_past (replicate n Todo) k Todo (subst (λ x. x ≤ k) (sym (length-replicate n Todo)) h))
    (cases_lt k n)

-- the invariant of emission holds at first: each move is `Todo`, and nothing is emitted
pub begins : (ms : List Ends) (nexts : List ℕ) → HasGivenWhole ms nexts (replicate (length ms) Todo) []
unfolding WritesNoneFirst
begins ms nexts = record {
  had = gives_none ms (replicate (length ms) Todo) (λ k r done. todo_done (state_at (replicate (length ms) Todo) k) (all_todo (length ms) k) done);
  rings = rings_none nexts (length ms) (all_todo (length ms));
  written = tt;
  plain = λ e. All-nil (λ (m : Ends). (m.from ≡ NoPlace → ⊥) × (m.to ≡ NoPlace → ⊥));
}

-- before anything is emitted no move is `Pending`
pub begins_none_pending : (n : ℕ) → HasNonePending (replicate n Todo)
begins_none_pending n k r e = todo_pending (state_at (replicate n Todo) k) (all_todo n k) e

-- all moves are given out
pub gives_all : (ms : List Ends) (st : List State) (given : List Ends) → HasGiven (length ms) ms st given → length st ≡ length ms → HasNonePending st →
    ((k : ℕ) → k < length ms → state_at st k ≡ Todo → ⊥) → (q : Place) → (q ≡ NoPlace → ⊥) → TakesFrom ms q (origin given q)
gives_all ms st given had same none_pending none_todo q real =
    record {
      written = λ k r e. ap (origin given) (sym e) ∙ had.gave k r (is_done_else (state_at st k) (none_todo k r) (none_pending k (omega arith))) ∙
          source_other (length ms) ms k (λ f. absurd (omega arith));
      unwritten = λ n. had.kept q real (λ k r done e. n k r e);
    }

-- where no move before `start` was `Todo`, and `start` isn't any more, no move up to and including it is
pub none_todo_more : (st new : List State) (start : ℕ) → ((k : ℕ) → k < start → state_at st k ≡ Todo → ⊥) → HasGoneOn st new → (state_at new start ≡ Todo → ⊥) →
    (k : ℕ) → k < start + 1 → state_at new k ≡ Todo → ⊥
none_todo_more st new start before on here k r e = ⊎_elim
    (λ l. on k (before k l) e)
    (λ h. let same : k ≡ start = omega arith in here (ap (λ x. state_at new x) (sym same) ∙ e))
    (cases_lt k start)

-- what holds as the loop comes to a move
pub record HasGivenTo (ms : List Ends) (nexts : List ℕ) (st : List State) (given : List Ends) (chain : List ℕ) (start : ℕ) : Type 0 where
  pub as_many : length st ≡ length ms
  pub had : HasGivenWhole ms nexts st given
  pub none_pending : HasNonePending st
  pub empty : chain ≡ []
  pub passed : (k : ℕ) → k < start → state_at st k ≡ Todo → ⊥

-- the loop's invariant holds at the first move, with nothing emitted and an empty chain
pub given_none : (ms : List Ends) (nexts : List ℕ) (st : List State) (given : List Ends) (chain : List ℕ) → st ≡ replicate (length ms) Todo → given ≡ [] →
    chain ≡ [] → HasGivenTo ms nexts st given chain 0
given_none ms nexts st given chain e f g = record {
  as_many = ap length e ∙ length-replicate (length ms) Todo;
  had = subst (λ x. HasGivenWhole ms nexts x given) (sym e) (subst (λ x. HasGivenWhole ms nexts (replicate (length ms) Todo) x) (sym f) (begins ms nexts));
  none_pending = subst (λ x. HasNonePending x) (sym e) (begins_none_pending (length ms));
  empty = g;
  passed = λ k r. absurd (omega arith);
}

-- the loop's invariant goes on to the next move once the chain that begins at `start` is emitted
pub given_more : (ms : List Ends) (nexts : List ℕ) (st new : List State) (given : List Ends) (chain old : List ℕ) (start : ℕ) (more : List Ends) →
    HasGivenTo ms nexts st given old start → length new ≡ length ms → HasGivenWhole ms nexts new more → HasNonePending new → chain ≡ [] → HasGoneOn st new →
    (state_at new start ≡ Todo → ⊥) → HasGivenTo ms nexts new more chain (start + 1)
given_more ms nexts st new given chain old start more was many had none_pending empty on here = record {
  as_many = many;
  had = had;
  none_pending = none_pending;
  empty = empty;
  passed = none_todo_more st new start was.passed on here;
}

-- a move that is not to be done is passed
pub given_passed : (ms : List Ends) (nexts : List ℕ) (st : List State) (given : List Ends) (chain : List ℕ) (start : ℕ) →
    HasGivenTo ms nexts st given chain start → (state_at st start ≡ Todo → ⊥) → HasGivenTo ms nexts st given chain (start + 1)
given_passed ms nexts st given chain start was here =
    given_more ms nexts st st given chain chain start given was was.as_many was.had was.none_pending was.empty (λ k n. n) here

-- all moves are given out
pub given_whole : (ms : List Ends) (nexts : List ℕ) (st : List State) (given : List Ends) (chain : List ℕ) → length nexts ≡ length ms →
    HasGivenTo ms nexts st given chain (length ms) → IsOrder ms nexts given
given_whole ms nexts st given chain many was =
    let all_done : (k : ℕ) → k < length st → state_at st k ≡ Done = λ k r.
    let same : length st ≡ length ms = was.as_many in
    is_done_else (state_at st k) (was.passed k (omega arith)) (was.none_pending k r) in
    let counts : count_by is_done st ≡ length st = count_all st all_done in
    let r : HasRings nexts st (length given) = was.had.rings in
    let counted : length given ≡ count_by is_done st + length r.rings = r.counted in
    let same : length st ≡ length ms = was.as_many in
    record {
      takes = gives_all ms st given was.had.had was.as_many was.none_pending was.passed;
      rings = r.rings;
      each = r.each;
      apart = r.apart;
      whole = λ ring is. r.whole ring is (λ i low. let inside : number_at ring i < length nexts = is.inside i low in all_done (number_at ring i) (omega arith));
      counted = omega arith;
      written = was.had.written;
      plain = λ e. was.had.plain (omega arith);
    }

-- what was not to be done before a chain is given out still isn't
pub given_on : {T : Type 0} (moves : List (Place × Place × T)) (nexts : List ℕ) (old mid new : List State) (chain : List ℕ) (given : List (Place × Place × T))
    (start : ℕ) → HasGoneOn old mid → (state_at mid start ≡ Todo → ⊥) → IsGivenOut moves nexts mid new chain given → IsGivenOut moves nexts old new chain given
    × (state_at new start ≡ Todo → ⊥)
given_on moves nexts old mid new chain given start on begun h = (
  record { had = h.had; none_pending = h.none_pending; empty = h.empty; goes_on = λ k n. h.goes_on k (on k n); of_moves = h.of_moves },
  h.goes_on start begun,
)
