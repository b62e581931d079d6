-- Lemmas on the rings that are met as moves are given out.
use Rattle.std.proofs.Common.{◌≡◌, ℕ, zero, suc, ◌+◌, ◌-◌, ◌*◌, ◌<◌, ◌≤◌, cond, List, [], ◌∷◌, ◌++◌, length, set, drop, replicate, ◌⊎◌, refl, sym, ap}
use Rattle.std.proofs.Common.{◌∙◌, subst, inl, inr, ⊎_elim, arith}
use Rattle.std.proofs.lemmas.Bool.{cases_eq, cases_lt}
use Rattle.std.proofs.lemmas.List.{get_or-drop, length-drop, get_or_append_left, get_or-append-add, length-append}
use Rattle.std.proofs.lemmas.List.Sums.{sum_by-set, sum_by-cons}
use Rattle.std.proofs.lemmas.List.Folds.{sum_by-replicate}
use Rattle.std.specs.List.{count_by}
use Rattle.regalloc2_parts.specs.declared.moves.order.State.{State}
use Rattle.regalloc2_parts.specs.declared.moves.order.State.TheVariants.{Todo, Pending, Done}
use Rattle.regalloc2_parts.specs.Giving.{state_at, number_at, is_done, ring_at, IsRingOfMoves, StandsIn, HasRings, AreRingsDone, IsMoveChain, IsNextDone}
use Rattle.regalloc2_parts.specs.Giving.{AreSameDone, HasGoneOn, HasNonePending}
use Rattle.regalloc2_parts.proofs.Chains.{set_here, set_there, length_push, at_end, at_left, at_last, todo_done, pending_done, todo_pending, is_done_else}
use Rattle.regalloc2_parts.proofs.Orders.{done_before, done_after}

not_done : (s : State) → (s ≡ Done → ⊥) → ◌≡◌ {A = ℕ} (cond (is_done s) 1 0) 0
unfolding is_done
not_done Todo m = refl
not_done Pending m = refl
not_done Done m = absurd (m refl)

-- one more move is done
pub count_done : (st : List State) (k : ℕ) → k < length st → (state_at st k ≡ Done → ⊥) → count_by is_done (set st k Done) ≡ count_by is_done st + 1
unfolding is_done
count_done st k r n =
    let f : State → ℕ = λ x. cond (is_done x) 1 0 in
    let changed : count_by is_done (set st k Done) + f (state_at st k) ≡ count_by is_done st + 1 = sum_by-set f st k Done Todo r in
    let none : f (state_at st k) ≡ 0 = not_done (state_at st k) n in
    omega arith

done_alike : (s t : State) → (s ≡ Done → t ≡ Done) → (t ≡ Done → s ≡ Done) → ◌≡◌ {A = ℕ} (cond (is_done t) 1 0) (cond (is_done s) 1 0)
unfolding is_done
done_alike Done t f g = ap (λ (x : State). cond {A = ℕ} (is_done x) 1 0) (f refl)
done_alike Todo Done f g = ap (λ (x : State). cond {A = ℕ} (is_done x) 1 0) (sym (g refl))
done_alike Pending Done f g = ap (λ (x : State). cond {A = ℕ} (is_done x) 1 0) (sym (g refl))
done_alike Todo Todo f g = refl
done_alike Todo Pending f g = refl
done_alike Pending Todo f g = refl
done_alike Pending Pending f g = refl

-- where all are done
pub count_all : (st : List State) → ((k : ℕ) → k < length st → state_at st k ≡ Done) → count_by is_done st ≡ length st
unfolding is_done
count_all [] h = refl
count_all (s ∷ st) h =
    let here : s ≡ Done = h 0 (omega arith) in
    let later : count_by is_done st ≡ length st = count_all st (λ k r. h (suc k) (omega arith)) in
    let one : ◌≡◌ {A = ℕ} (cond (is_done s) 1 0) 1 = ap (λ (x : State). cond {A = ℕ} (is_done x) 1 0) here in
    let parts : count_by is_done (s ∷ st) ≡ cond (is_done s) 1 0 + count_by is_done st = sum_by-cons (λ x. cond (is_done x) 1 0) s st in
    let whole : length (s ∷ st) ≡ length st + 1 = omega arith in
    omega arith

-- states of which the same are done are counted alike
pub count_same : (old st : List State) → length st ≡ length old → AreSameDone old st → count_by is_done st ≡ count_by is_done old
unfolding is_done
count_same [] [] e same = refl
count_same [] (t ∷ st) e same = absurd (omega arith)
count_same (s ∷ old) [] e same = absurd (omega arith)
count_same (s ∷ old) (t ∷ st) e same =
    let later : count_by is_done st ≡ count_by is_done old = count_same old st (omega arith)
    (record { stays = λ k. same.stays (suc k); was = λ k. same.was (suc k) }) in
    let here : ◌≡◌ {A = ℕ} (cond (is_done t) 1 0) (cond (is_done s) 1 0) = done_alike s t (same.stays 0) (same.was 0) in
    let old_parts : count_by is_done (s ∷ old) ≡ cond (is_done s) 1 0 + count_by is_done old = sum_by-cons (λ x. cond (is_done x) 1 0) s old in
    let new_parts : count_by is_done (t ∷ st) ≡ cond (is_done t) 1 0 + count_by is_done st = sum_by-cons (λ x. cond (is_done x) 1 0) t st in
    omega arith

-- whether a number stands in a list
finds : (ks : List ℕ) (k : ℕ) → ((i : ℕ) × (i < length ks) × (number_at ks i ≡ k)) ⊎ ((i : ℕ) → i < length ks → number_at ks i ≡ k → ⊥)
finds [] k = inr (λ i r e. absurd (omega arith))
finds (x ∷ ks) k = ⊎_elim
    (λ e. inl (0, omega arith, e))
    (λ n. ⊎_elim
    (λ f. let at : (i : ℕ) × (i < length ks) × (number_at ks i ≡ k) = f in
    let low : at.0 < length ks = at.1 in inl (suc at.0, omega arith, at.2))
    (λ m. inr (λ i r e. later x ks k n m i r e))
    (finds ks k))
    (cases_eq x k)
  where
    later : (x : ℕ) (ks : List ℕ) (k : ℕ) → (x ≡ k → ⊥) → ((i : ℕ) → i < length ks → number_at ks i ≡ k → ⊥) → (i : ℕ) → i < length (x ∷ ks) →
        number_at (x ∷ ks) i ≡ k → ⊥
    later x ks k n m zero r e = n e
    later x ks k n m (suc i) r e = m i (omega arith) e

-- each move of a ring comes after another of the same ring
pub before_in_ring : (nexts ring : List ℕ) (i : ℕ) → IsRingOfMoves nexts ring → i < length ring → (j : ℕ) × (j < length ring)
    × (number_at nexts (number_at ring j) ≡ number_at ring i) × (number_at ring j ≡ number_at ring i → ⊥)
before_in_ring nexts ring zero is r =
    let many : 2 ≤ length ring = is.many in
    (length ring - 1, omega arith, is.closed (length ring - 1) (omega arith), λ e. is.differ 0 (length ring - 1) (omega arith) (omega arith) (sym e))
before_in_ring nexts ring (suc i) is r = (
  i,
  omega arith,
  is.linked i (omega arith) ∙ ap (λ x. number_at ring x) (let e : i + 1 ≡ suc i = omega arith in e),
  λ e. is.differ i (suc i) (omega arith) r e,
)

-- where all that was done before went on to what is done, a ring is not ended by one move more
ring_ended : (nexts : List ℕ) (st : List State) (rings : List (List ℕ)) (k : ℕ) → length st ≡ length nexts → k < length nexts → (state_at st k ≡ Done → ⊥) →
    ((j : ℕ) → j < length nexts → state_at st j ≡ Done → number_at nexts j < length nexts → (state_at st (number_at nexts j) ≡ Done) ⊎ StandsIn rings j) →
    ((ring : List ℕ) → IsRingOfMoves nexts ring → ((i : ℕ) → i < length ring → state_at st (number_at ring i) ≡ Done) → (i : ℕ) × (i < length ring)
    × StandsIn rings (number_at ring i)) → (ring : List ℕ) → IsRingOfMoves nexts ring →
    ((i : ℕ) → i < length ring → state_at (set st k Done) (number_at ring i) ≡ Done) → (i : ℕ) × (i < length ring) × StandsIn rings (number_at ring i)
ring_ended nexts st rings k many within open_ onward whole ring is done = ⊎_elim
    (λ f. let at : (i : ℕ) × (i < length ring) × (number_at ring i ≡ k) = f in
    let pre : (j : ℕ) × (j < length ring) × (number_at nexts (number_at ring j) ≡ number_at ring at.0)
    × (number_at ring j ≡ number_at ring at.0 → ⊥) = before_in_ring nexts ring at.0 is at.1 in
    let to_k : number_at nexts (number_at ring pre.0) ≡ k = pre.2 ∙ at.2 in
    let was : state_at st (number_at ring pre.0) ≡ Done = ⊎_elim
    (λ e. absurd (pre.3 (e ∙ sym at.2)))
    (λ d. d)
    (done_before st k (number_at ring pre.0) (done pre.0 pre.1)) in
    let goes : number_at nexts (number_at ring pre.0) < length nexts = subst (λ x. x < length nexts) (sym to_k) within in
    ⊎_elim
    (λ d. absurd (open_ (ap (λ x. state_at st x) (sym to_k) ∙ d)))
    (λ s. (pre.0, pre.1, s))
    (onward (number_at ring pre.0) (is.inside pre.0 pre.1) was goes))
    (λ n. whole ring is (λ i r. ⊎_elim (λ e. absurd (n i r e)) (λ d. d) (done_before st k (number_at ring i) (done i r))))
    (finds ring k)

-- one more move is done, whose next is done or missing
pub rings_one : (nexts : List ℕ) (st : List State) (count k : ℕ) → HasRings nexts st count → length st ≡ length nexts → k < length nexts →
    (state_at st k ≡ Done → ⊥) → IsNextDone nexts st k → HasRings nexts (set st k Done) (count + 1)
rings_one nexts st count k had many within open_ ready =
    let short : k < length st = omega arith in
    let more : count_by is_done (set st k Done) ≡ count_by is_done st + 1 = count_done st k short open_ in
    let was : count ≡ count_by is_done st + length had.rings = had.counted in
    record {
      rings = had.rings;
      each = had.each;
      apart = had.apart;
      reached = λ j s e. ⊎_elim
          (λ same. todo_done Done (sym (set_here st k Done short) ∙ ap (λ x. state_at (set st k Done) x) (sym same) ∙ e) refl)
          (λ n. had.reached j s (sym (set_there st k j Done n) ∙ e))
          (cases_eq j k);
      onward = λ j r done goes. ⊎_elim
          (λ same. inl (done_after st k (number_at nexts j) short (ap (λ x. state_at st (number_at nexts x)) same
          ∙ ready (subst (λ x. number_at nexts x < length nexts) same goes))))
          (λ d. ⊎_elim (λ e. inl (done_after st k (number_at nexts j) short e)) (λ s. inr s) (had.onward j r d goes))
          (done_before st k j done);
      whole = ring_ended nexts st had.rings k many within open_ had.onward had.whole;
      counted = omega arith;
    }

ring_old : (rings : List (List ℕ)) (ring : List ℕ) (r : ℕ) → r < length rings → ring_at (rings ++ ring ∷ []) r ≡ ring_at rings r
ring_old rings ring r low = get_or_append_left rings (ring ∷ []) [] r low

ring_new : (rings : List (List ℕ)) (ring : List ℕ) (r : ℕ) → r ≡ length rings → ring_at (rings ++ ring ∷ []) r ≡ ring
ring_new rings ring r e = ap (λ x. ring_at (rings ++ ring ∷ []) x) (e ∙ (let f : length rings ≡ length rings + 0 = omega arith in f))
    ∙ get_or-append-add rings (ring ∷ []) 0 []

stands_old : (rings : List (List ℕ)) (ring : List ℕ) (k : ℕ) → StandsIn rings k → StandsIn (rings ++ ring ∷ []) k
stands_old rings ring k s =
    let more : length (rings ++ ring ∷ []) ≡ length rings + 1 = length-append rings (ring ∷ []) in
    let low : s.0 < length rings = s.2 in
    let same : ring_at (rings ++ ring ∷ []) s.0 ≡ ring_at rings s.0 = ring_old rings ring s.0 low in
    (s.0, s.1, omega arith, subst (λ x. s.1 < length x) (sym same) s.3, ap (λ x. number_at x s.1) same ∙ s.4)

stands_new : (rings : List (List ℕ)) (ring : List ℕ) (k i : ℕ) → i < length ring → number_at ring i ≡ k → StandsIn (rings ++ ring ∷ []) k
stands_new rings ring k i r e =
    let more : length (rings ++ ring ∷ []) ≡ length rings + 1 = length-append rings (ring ∷ []) in
    let same : ring_at (rings ++ ring ∷ []) (length rings) ≡ ring = ring_new rings ring (length rings) refl in
    (length rings, i, omega arith, subst (λ x. i < length x) (sym same) r, ap (λ x. number_at x i) same ∙ e)

-- a move of the rings with one more is one of the old ones, or of the new one
stands_cases : (rings : List (List ℕ)) (ring : List ℕ) (k : ℕ) → StandsIn (rings ++ ring ∷ []) k → StandsIn rings k
    ⊎ ((i : ℕ) × (i < length ring) × (number_at ring i ≡ k))
stands_cases rings ring k s =
    let more : length (rings ++ ring ∷ []) ≡ length rings + 1 = length-append rings (ring ∷ []) in
    ⊎_elim
    (λ low. let same : ring_at (rings ++ ring ∷ []) s.0 ≡ ring_at rings s.0 = ring_old rings ring s.0 low in
    inl (s.0, s.1, low, subst (λ x. s.1 < length x) same s.3, ap (λ x. number_at x s.1) (sym same) ∙ s.4))
    (λ high. let in_all : s.0 < length (rings ++ ring ∷ []) = s.2 in
    let same : ring_at (rings ++ ring ∷ []) s.0 ≡ ring = ring_new rings ring s.0 (omega arith) in
    inr (s.1, subst (λ x. s.1 < length x) same s.3, ap (λ x. number_at x s.1) (sym same) ∙ s.4))
    (cases_lt s.0 (length rings))

-- the moves of a chain, from the move that its last leads back to on, are a ring
pub chain_ring : (nexts : List ℕ) (st : List State) (chain : List ℕ) (k next i : ℕ) → IsMoveChain nexts st (chain ++ k ∷ []) → number_at nexts k ≡ next →
    i < length chain → number_at chain i ≡ next → IsRingOfMoves nexts (drop i (chain ++ k ∷ []))
chain_ring nexts st chain k next i is next_is low at_i =
    let all : List ℕ = chain ++ k ∷ [] in
    let more : length all ≡ length chain + 1 = length_push chain k in
    let size : length (drop i all) ≡ length all - i = length-drop i all in
    record {
      many = omega arith;
      inside = λ j r. subst (λ x. x < length nexts) (sym (get_or-drop i all j 0)) (is.inside (i + j) (omega arith));
      differ = λ a b o r e. is.differ (i + a) (i + b) (omega arith) (omega arith) (sym (get_or-drop i all a 0) ∙ e ∙ get_or-drop i all b 0);
      linked = λ j r. ap (λ x. number_at nexts x) (get_or-drop i all j 0) ∙ is.linked (i + j) (omega arith) ∙
          ap (λ x. number_at all x) (let e : i + j + 1 ≡ i + (j + 1) = omega arith in e) ∙ sym (get_or-drop i all (j + 1) 0);
      closed = λ j e. ap (λ x. number_at nexts x) (get_or-drop i all j 0 ∙ at_last chain k (i + j) (omega arith)) ∙ next_is ∙ sym at_i ∙
          sym (at_left chain k i low) ∙ ap (λ x. number_at all x) (let f : i ≡ i + 0 = omega arith in f) ∙ sym (get_or-drop i all 0 0);
    }

-- a ring is opened at the last move of the chain
pub rings_open : (nexts : List ℕ) (st : List State) (count : ℕ) (chain : List ℕ) (k next i : ℕ) → (had : HasRings nexts st count) → AreRingsDone st had.rings →
    length st ≡ length nexts → IsMoveChain nexts st (chain ++ k ∷ []) → number_at nexts k ≡ next → i < length chain → number_at chain i ≡ next →
    HasRings nexts (set st k Done) (count + 2)
rings_open nexts st count chain k next i had are_done many is next_is low at_i =
    let all : List ℕ = chain ++ k ∷ [] in
    let longer : length all ≡ length chain + 1 = length_push chain k in
    let ring : List ℕ = drop i all in
    let size : length ring ≡ length all - i = length-drop i all in
    let in_nexts : number_at all (length chain) < length nexts = is.inside (length chain) (omega arith) in
    let within : k < length nexts = subst (λ x. x < length nexts) (at_end chain k) in_nexts in
    let short : k < length st = omega arith in
    let pends : state_at st k ≡ Pending = ap (λ x. state_at st x) (sym (at_end chain k)) ∙ is.pending (length chain) (omega arith) in
    let open_ : state_at st k ≡ Done → ⊥ = pending_done (state_at st k) pends in
    let is_ring : IsRingOfMoves nexts ring = chain_ring nexts st chain k next i is next_is low at_i in
    let pending_in : (j : ℕ) → j < length ring → state_at st (number_at ring j) ≡ Pending = λ j r.
    ap (λ x. state_at st x) (get_or-drop i all j 0) ∙ is.pending (i + j) (omega arith) in
    let rings : List (List ℕ) = had.rings ++ ring ∷ [] in
    let wider : length rings ≡ length had.rings + 1 = length-append had.rings (ring ∷ []) in
    let counts : count_by is_done (set st k Done) ≡ count_by is_done st + 1 = count_done st k short open_ in
    let was : count ≡ count_by is_done st + length had.rings = had.counted in
    let has_k : StandsIn rings k = stands_new had.rings ring k (length chain - i) (omega arith)
    (get_or-drop i all (length chain - i) 0 ∙ at_last chain k (i + (length chain - i)) (omega arith)) in
    record {
      rings = rings;
      each = λ r in_range. ⊎_elim
          (λ l. subst (λ x. IsRingOfMoves nexts x) (sym (ring_old had.rings ring r l)) (had.each r l))
          (λ h. subst (λ x. IsRingOfMoves nexts x) (sym (ring_new had.rings ring r (omega arith))) is_ring)
          (cases_lt r (length had.rings));
      apart = λ r s a b o in_range ra rb e.
          let l : r < length had.rings = omega arith in
          let same : ring_at rings r ≡ ring_at had.rings r = ring_old had.rings ring r l in
          let ra_old : a < length (ring_at had.rings r) = subst (λ x. a < length x) same ra in
          ⊎_elim
          (λ m. let same_s : ring_at rings s ≡ ring_at had.rings s = ring_old had.rings ring s m in
          had.apart r s a b o m ra_old (subst (λ x. b < length x) same_s rb)
          (ap (λ x. number_at x a) (sym same) ∙ e ∙ ap (λ x. number_at x b) same_s))
          (λ h. let same_s : ring_at rings s ≡ ring = ring_new had.rings ring s (omega arith) in
          let rb_new : b < length ring = subst (λ x. b < length x) same_s rb in
          let one : number_at (ring_at had.rings r) a ≡ number_at ring b = ap (λ x. number_at x a) (sym same) ∙ e ∙ ap (λ x. number_at x b) same_s in
          pending_done (state_at st (number_at ring b)) (pending_in b rb_new)
          (ap (λ x. state_at st x) (sym one) ∙ are_done (number_at (ring_at had.rings r) a) (r, a, l, ra_old, refl)))
          (cases_lt s (length had.rings));
      reached = λ j s e.
          ⊎_elim
          (λ same. todo_done Done (sym (set_here st k Done short) ∙ ap (λ x. state_at (set st k Done) x) (sym same) ∙ e) refl)
          (λ n. let old : state_at st j ≡ Todo = sym (set_there st k j Done n) ∙ e in
          ⊎_elim
          (λ t. had.reached j t old)
          (λ t. let at : (a : ℕ) × (a < length ring) × (number_at ring a ≡ j) = t in
          todo_pending (state_at st j) old (ap (λ x. state_at st x) (sym at.2) ∙ pending_in at.0 at.1))
          (stands_cases had.rings ring j s))
          (cases_eq j k);
      onward = λ j r done goes. ⊎_elim
          (λ same. inr (subst (λ x. StandsIn rings x) (sym same) has_k))
          (λ d. ⊎_elim (λ e. inl (done_after st k (number_at nexts j) short e)) (λ s. inr (stands_old had.rings ring j s)) (had.onward j r d goes))
          (done_before st k j done);
      whole = λ q q_is done. ring_ended nexts st rings k many within open_
          (λ j r d goes. ⊎_elim (λ e. inl e) (λ s. inr (stands_old had.rings ring j s)) (had.onward j r d goes))
          (λ p p_is p_done. let old : (a : ℕ) × (a < length p) × StandsIn had.rings (number_at p a) = had.whole p p_is p_done in
          (old.0, old.1, stands_old had.rings ring (number_at p old.0) old.2))
          q q_is done;
      counted = omega arith;
    }

-- states of which the same moves are done, and in which none is again to be done
pub rings_same : (nexts : List ℕ) (old st : List State) (count : ℕ) → (had : HasRings nexts old count) → AreSameDone old st → HasGoneOn old st →
    count_by is_done st ≡ count_by is_done old → HasRings nexts st count
rings_same nexts old st count had same on counts =
    let was : count ≡ count_by is_done old + length had.rings = had.counted in
    record {
      rings = had.rings;
      each = had.each;
      apart = had.apart;
      reached = λ k s e. on k (had.reached k s) e;
      onward = λ k r done goes. ⊎_elim (λ d. inl (same.stays (number_at nexts k) d)) (λ s. inr s) (had.onward k r (same.was k done) goes);
      whole = λ ring is done. had.whole ring is (λ i r. same.was (number_at ring i) (done i r));
      counted = omega arith;
    }

-- where no move is pending, what stands in a ring is done
pub rings_all_done : (nexts : List ℕ) (st : List State) (count : ℕ) (had : HasRings nexts st count) → HasNonePending st → length st ≡ length nexts →
    AreRingsDone st had.rings
rings_all_done nexts st count had none_pending many k s =
    let e : number_at (ring_at had.rings s.0) s.1 ≡ k = s.4 in
    let within : k < length nexts = subst (λ x. x < length nexts) e ((had.each s.0 s.2).inside s.1 s.3) in
    is_done_else (state_at st k) (had.reached k s) (none_pending k (omega arith))

-- following a chain from a state in which no move was pending leaves the rings that were met, all done
pub rings_follow : (nexts : List ℕ) (old st : List State) (count : ℕ) → HasRings nexts old count → HasNonePending old → length old ≡ length nexts →
    AreSameDone old st → HasGoneOn old st → length st ≡ length old → (had : HasRings nexts st count) × AreRingsDone st had.rings
unfolding rings_same
rings_follow nexts old st count had none_pending many same on long =
    (rings_same nexts old st count had same on (count_same old st long same), λ k s. same.stays k (rings_all_done nexts old count had none_pending many k s))

-- no move is done
pub rings_none : (nexts : List ℕ) (n : ℕ) → ((k : ℕ) → state_at (replicate n Todo) k ≡ Todo) → HasRings nexts (replicate n Todo) 0
unfolding is_done
rings_none nexts n todo =
    let f : State → ℕ = λ x. cond (is_done x) 1 0 in
    let zero_done : count_by is_done (replicate n Todo) ≡ n * f Todo = sum_by-replicate f n Todo in
    record {
      rings = [];
      each = λ r low. absurd (omega arith);
      apart = λ r s i j o low a b e. absurd (omega arith);
      reached = λ k s. let low : s.0 < 0 = s.2 in absurd (omega arith);
      onward = λ k r done goes. absurd (todo_done (state_at (replicate n Todo) k) (todo k) done);
      whole = λ ring is done. let many : 2 ≤ length ring = is.many in
          absurd (todo_done (state_at (replicate n Todo) (number_at ring 0)) (todo (number_at ring 0)) (done 0 (omega arith)));
      counted = omega arith;
    }
