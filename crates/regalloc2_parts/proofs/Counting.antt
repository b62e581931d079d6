-- Lemmas on the cycles of moves, from the rings of the tidied list.
use Rattle.std.proofs.Common.{◌≡◌, ◌≢◌, ℕ, zero, suc, ◌+◌, ◌<◌, ◌≤◌, List, [], ◌∷◌, length, map, get_or, refl, sym, ap, ◌∙◌, subst, ⊎_elim, arith}
use Rattle.std.specs.Prelude.{Contains}
use Rattle.std.proofs.lemmas.Bool.{cases_lt}
use Rattle.std.proofs.lemmas.List.{get_or-map, length-map, get_or_default}
use Rattle.std.proofs.lemmas.List.Elements.{Contains-get_or}
use Rattle.regalloc2_names.specs.PlaceBits.{bits_of_place}
use Rattle.regalloc2_parts.specs.AtOnce.{Ends, no_move}
use Rattle.regalloc2_parts.specs.Cycles.{move_at, cycle_at, IsCycle, HasCycle, AreChanges, IsCounted}
use Rattle.regalloc2_parts.specs.Giving.{from_at, to_at, number_at, ring_at, AreMovesApart, AreNexts, IsRingOfMoves, StandsIn, IsTidied, IsOrder, AreFair}
use Rattle.regalloc2_parts.proofs.Tidying.{same_ends}

-- after each move of a cycle comes another
after_in_cycle : (ms ring : List Ends) (i : ℕ) → IsCycle ms ring → i < length ring → (j : ℕ) × (j < length ring) × ((move_at ring i).from ≡ (move_at ring j).to)
    × (move_at ring i ≢ move_at ring j)
after_in_cycle ms ring i is r =
    let many : 2 ≤ length ring = is.many in
    ⊎_elim
    (λ l. (i + 1, l, is.linked i l, is.differ i (i + 1) (omega arith) l))
    (λ h. (0, omega arith, is.closed i (omega arith), λ e. is.differ 0 i (omega arith) r (sym e)))
    (cases_lt (i + 1) (length ring))

-- no move of a cycle has its source as its destination
cycle_changes : (ms ring : List Ends) (i : ℕ) → AreFair ms → IsCycle ms ring → i < length ring → (move_at ring i).from ≢ (move_at ring i).to
cycle_changes ms ring i fair is r e =
    let next : (j : ℕ) × (j < length ring) × ((move_at ring i).from ≡ (move_at ring j).to)
    × (move_at ring i ≢ move_at ring j) = after_in_cycle ms ring i is r in
    let to_is : (move_at ring i).to ≡ (move_at ring next.0).to = sym e ∙ next.2 in
    next.3 (same_ends (move_at ring i) (move_at ring next.0) (fair.one_source (move_at ring i) (move_at ring next.0) (is.of_moves i r)
    (is.of_moves next.0 next.1) to_is) to_is)

-- the index of each of some moves in a list that has them
indexes : (new ring : List Ends) → ((i : ℕ) → i < length ring → Contains new (move_at ring i)) →
    (ks : List ℕ) × (length ks ≡ length ring) × ((i : ℕ) → i < length ring → (number_at ks i < length new) × (move_at new (number_at ks i) ≡ move_at ring i))
indexes new [] has = ([], refl, λ i r. absurd (omega arith))
indexes new (m ∷ ring) has =
    let here : Contains new m = has 0 (omega arith) in
    let later = indexes new ring (λ i r. has (suc i) (omega arith)) in
    let same : length later.0 ≡ length ring = later.1 in
    (here.0 ∷ later.0, omega arith, λ i r. at here.0 m ring later.0 here.1 (get_or_default new here.0 no_move m here.1 ∙ here.2) later.2 i r)
  where
    at : (k : ℕ) (m : Ends) (ring : List Ends) (ks : List ℕ) → k < length new → move_at new k ≡ m →
        ((i : ℕ) → i < length ring → (number_at ks i < length new) × (move_at new (number_at ks i) ≡ move_at ring i)) → (i : ℕ) → i < length (m ∷ ring) →
        (number_at (k ∷ ks) i < length new) × (move_at new (number_at (k ∷ ks) i) ≡ move_at (m ∷ ring) i)
    at k m ring ks low is later zero r = (low, is)
    at k m ring ks low is later (suc i) r = later i (omega arith)

module _ (old new : List Ends) (nexts : List ℕ) (fair : AreFair old) (tidied : IsTidied old new) (apart : AreMovesApart new) (ns : AreNexts new nexts) where
  -- the move that writes what another reads is its next
  next_is : (k j : ℕ) → k < length new → j < length new → from_at new k ≡ to_at new j → number_at nexts k ≡ j
  next_is k j rk rj e = ⊎_elim
      (λ l. apart.one_writer (number_at nexts k) j l rj (ns.found k rk l ∙ e))
      (λ n. absurd (ns.absent k rk (λ l. omega arith) j rj (sym e)))
      (cases_lt (number_at nexts k) (length new))

  abbrev ends_ring : List ℕ → List Ends
  ends_ring ring = map (λ k. move_at new k) ring

  ends_ring-at : (ring : List ℕ) (i : ℕ) → i < length ring → move_at (ends_ring ring) i ≡ move_at new (number_at ring i)
  ends_ring-at ring i r = get_or-map (λ k. move_at new k) ring i 0 no_move r

  ends_ring-length : (ring : List ℕ) → length (ends_ring ring) ≡ length ring
  ends_ring-length ring = length-map ring (λ k. move_at new k)

  -- a ring is a cycle
  ring_cycle : (ring : List ℕ) → IsRingOfMoves nexts ring → IsCycle old (ends_ring ring)
  ring_cycle ring is =
      let size : length (ends_ring ring) ≡ length ring = ends_ring-length ring in
      let many : 2 ≤ length ring = is.many in
      let long : length nexts ≡ length new = ns.as_many in
      let within : (i : ℕ) → i < length ring → number_at ring i < length new = λ i r. let l : number_at ring i < length nexts = is.inside i r in omega arith in
      let reads : (i j : ℕ) → i < length ring → j < length ring → number_at nexts (number_at ring i) ≡ number_at ring j →
      (move_at (ends_ring ring) i).from ≡ (move_at (ends_ring ring) j).to = λ i j ri rj e.
      ap (λ (m : Ends). m.from) (ends_ring-at ring i ri) ∙
      sym (ns.found (number_at ring i) (within i ri) (subst (λ x. x < length new) (sym e) (within j rj))) ∙
      ap (λ x. to_at new x) e ∙ sym (ap (λ (m : Ends). m.to) (ends_ring-at ring j rj)) in
      record {
        many = omega arith;
        of_moves = λ i r. let l : i < length ring = omega arith in
            subst (λ m. Contains old m) (sym (ends_ring-at ring i l)) (tidied.of_old (move_at new (number_at ring i))
            (Contains-get_or new (number_at ring i) no_move (within i l)));
        differ = λ i j o r e. let rj : j < length ring = omega arith in let ri : i < length ring = omega arith in
            is.differ i j o rj (apart.one_writer (number_at ring i) (number_at ring j) (within i ri) (within j rj)
            (ap (λ (m : Ends). m.to) (sym (ends_ring-at ring i ri) ∙ e ∙ ends_ring-at ring j rj)));
        linked = λ i r. reads i (i + 1) (omega arith) (omega arith) (is.linked i (omega arith));
        closed = λ i e. reads i 0 (omega arith) (omega arith) (is.closed i (omega arith));
      }

  -- a cycle is a ring
  cycle_ring : (ring : List Ends) → IsCycle old ring → (ks : List ℕ) × IsRingOfMoves nexts ks × (length ks ≡ length ring)
      × ((i : ℕ) → i < length ring → move_at new (number_at ks i) ≡ move_at ring i)
  cycle_ring ring is =
      let long : length nexts ≡ length new = ns.as_many in
      let found : (ks : List ℕ) × (length ks ≡ length ring) × ((i : ℕ) → i < length ring → (number_at ks i < length new)
      × (move_at new (number_at ks i) ≡ move_at ring i)) =
      indexes new ring (λ i r. tidied.of_new (move_at ring i) (is.of_moves i r) (cycle_changes old ring i fair is r)) in
      let ks : List ℕ = found.0 in
      let size : length ks ≡ length ring = found.1 in
      let many : 2 ≤ length ring = is.many in
      let step : (i j : ℕ) → i < length ring → j < length ring → (move_at ring i).from ≡ (move_at ring j).to →
      number_at nexts (number_at ks i) ≡ number_at ks j = λ i j ri rj e.
      next_is (number_at ks i) (number_at ks j) (found.2 i ri).0 (found.2 j rj).0
      (ap (λ (m : Ends). m.from) (found.2 i ri).1 ∙ e ∙ sym (ap (λ (m : Ends). m.to) (found.2 j rj).1)) in (
        ks,
        record {
          many = omega arith;
          inside = λ i r. let l : number_at ks i < length new = (found.2 i (omega arith)).0 in omega arith;
          differ = λ i j o r e. is.differ i j o (omega arith) (sym (found.2 i (omega arith)).1 ∙ ap (λ k. move_at new k) e ∙ (found.2 j (omega arith)).1);
          linked = λ i r. step i (i + 1) (omega arith) (omega arith) (is.linked i (omega arith));
          closed = λ i e. step i 0 (omega arith) (omega arith) (is.closed i (omega arith));
        },
        size,
        λ i r. (found.2 i r).1,
      )

  -- the moves of the tidied list are the changes
  are_changes : AreChanges old new
  are_changes = record {
    of_moves = λ m h. (tidied.of_old m h, λ e. tidied.away m h e);
    whole = λ m h n. tidied.of_new m h n;
    differ = λ i j o r e. let l : bits_of_place (move_at new i).to < bits_of_place (move_at new j).to = tidied.strict i j no_move o r in
        let f : bits_of_place (move_at new i).to ≡ bits_of_place (move_at new j).to = ap (λ (m : Ends). bits_of_place m.to) e in absurd (omega arith);
  }

  -- an order of all moves counts the changes and the cycles
  pub order_counted : (given : List Ends) → IsOrder new nexts given → IsCounted old (length given)
  order_counted given order =
      let long : length nexts ≡ length new = ns.as_many in
      let rings : List (List Ends) = map ends_ring order.rings in
      let size : length rings ≡ length order.rings = length-map order.rings ends_ring in
      let counted : length given ≡ length new + length order.rings = order.counted in
      let at : (r : ℕ) → r < length order.rings → cycle_at rings r ≡ ends_ring (ring_at order.rings r) = λ r l. get_or-map ends_ring order.rings r [] [] l in
      let stands : (r i : ℕ) → r < length order.rings → i < length (ring_at order.rings r) →
      move_at (cycle_at rings r) i ≡ move_at new (number_at (ring_at order.rings r) i) = λ r i l ri.
      ap (λ x. move_at x i) (at r l) ∙ ends_ring-at (ring_at order.rings r) i ri in
      let sizes : (r : ℕ) → r < length order.rings → length (cycle_at rings r) ≡ length (ring_at order.rings r) = λ r l. ap length (at r l)
      ∙ ends_ring-length (ring_at order.rings r) in
      let within : (r i : ℕ) → r < length order.rings → i < length (ring_at order.rings r) → number_at (ring_at order.rings r) i < length new = λ r i l ri.
      let h : number_at (ring_at order.rings r) i < length nexts = (order.each r l).inside i ri in omega arith in
      record {
        changes = new;
        are_changes = are_changes;
        cycles = rings;
        are_cycles = record {
          each = λ r l. subst (λ x. IsCycle old x) (sym (at r (omega arith))) (ring_cycle (ring_at order.rings r) (order.each r (omega arith)));
          apart = λ r s i j o ls ri rj e.
              let lr : r < length order.rings = omega arith in
              let ls_old : s < length order.rings = omega arith in
              let ri_old : i < length (ring_at order.rings r) = subst (λ n. i < n) (sizes r lr) ri in
              let rj_old : j < length (ring_at order.rings s) = subst (λ n. j < n) (sizes s ls_old) rj in
              order.apart r s i j o ls_old ri_old rj_old
              (apart.one_writer (number_at (ring_at order.rings r) i) (number_at (ring_at order.rings s) j) (within r i lr ri_old) (within s j ls_old rj_old)
              (ap (λ (m : Ends). m.to) (sym (stands r i lr ri_old) ∙ e ∙ stands s j ls_old rj_old)));
          whole = λ ring is.
              let found = cycle_ring ring is in
              let same : length found.0 ≡ length ring = found.2 in
              let met : (i : ℕ) × (i < length found.0) × StandsIn order.rings (number_at found.0 i) = order.whole found.0 found.1 in
              let low : met.0 < length found.0 = met.1 in
              let s = met.2 in
              let ls : s.0 < length order.rings = s.2 in (
                met.0,
                s.0,
                s.1,
                omega arith,
                omega arith,
                subst (λ n. s.1 < n) (sym (sizes s.0 ls)) s.3,
                stands s.0 s.1 ls s.3 ∙ ap (λ k. move_at new k) s.4 ∙ found.3 met.0 (omega arith),
              );
        };
        counted = omega arith;
      }

  -- more moves than the tidied list has are given out just where there is a cycle
  pub more_cycle : (given : List Ends) → IsOrder new nexts given → length new < length given → HasCycle old
  more_cycle given order more =
      let counted : length given ≡ length new + length order.rings = order.counted in
      (ends_ring (ring_at order.rings 0), ring_cycle (ring_at order.rings 0) (order.each 0 (omega arith)))

  -- where no more moves were given out than the tidied list has, there is no cycle
  pub no_more_cycle : (given : List Ends) → IsOrder new nexts given → length given ≤ length new → HasCycle old → ⊥
  no_more_cycle given order few has =
      let counted : length given ≡ length new + length order.rings = order.counted in
      let found = cycle_ring has.0 has.1 in
      let met : (i : ℕ) × (i < length found.0) × StandsIn order.rings (number_at found.0 i) = order.whole found.0 found.1 in
      let low : met.2.0 < length order.rings = met.2.2 in
      omega arith

  -- where no move has a next, there is no cycle
  pub free_no_cycle : ((k : ℕ) → k < length nexts → length nexts ≤ number_at nexts k) → HasCycle old → ⊥
  free_no_cycle free has =
      let found = cycle_ring has.0 has.1 in
      let many : 2 ≤ length found.0 = found.1.many in
      let first : number_at found.0 0 < length nexts = found.1.inside 0 (omega arith) in
      let second : number_at found.0 1 < length nexts = found.1.inside 1 (omega arith) in
      let past : length nexts ≤ number_at nexts (number_at found.0 0) = free (number_at found.0 0) first in
      let e : number_at nexts (number_at found.0 0) ≡ number_at found.0 1 = found.1.linked 0 (omega arith) in
      omega arith

  -- where no move has a next, the tidied list has one move for each that changes something
  pub free_counted : ((k : ℕ) → k < length nexts → length nexts ≤ number_at nexts k) → IsCounted old (length new)
  free_counted free = record {
    changes = new;
    are_changes = are_changes;
    cycles = [];
    are_cycles = record {
      each = λ r l. absurd (omega arith);
      apart = λ r s i j o l ri rj e. absurd (omega arith);
      whole = λ ring is. absurd (free_no_cycle free (ring, is));
    };
    counted = omega arith;
  }

-- one move is no cycle
pub short_no_cycle : (ms : List Ends) → length ms ≤ 1 → HasCycle ms → ⊥
short_no_cycle ms short (ring, is) =
    let many : 2 ≤ length ring = is.many in
    let a : Contains ms (move_at ring 0) = is.of_moves 0 (omega arith) in
    let b : Contains ms (move_at ring 1) = is.of_moves 1 (omega arith) in
    let ra : a.0 < length ms = a.1 in
    let rb : b.0 < length ms = b.1 in
    let same : a.0 ≡ b.0 = omega arith in
    is.differ 0 1 (omega arith) (omega arith) (sym a.2 ∙ get_or_default ms a.0 (move_at ring 0) (move_at ring 1) ra
    ∙ ap (λ k. get_or ms k (move_at ring 1)) same ∙ b.2)
