-- Lemmas on a chain that is emitted from its end on.
use Rattle.std.proofs.Common.{◌≡◌, ℕ, ◌+◌, ◌<◌, ◌≤◌, List, [], ◌∷◌, ◌++◌, length, set, refl, sym, ap, ◌∙◌, subst, inl, inr, ⊎_elim, arith}
use Rattle.std.proofs.lemmas.List.{reverse-append, length-append}
use Rattle.regalloc2_names.specs.Place.{Place, NoPlace}
use Rattle.regalloc2_parts.specs.AtOnce.{Ends, WritesNoneFirst}
use Rattle.regalloc2_parts.specs.declared.moves.order.State.{State}
use Rattle.regalloc2_parts.specs.declared.moves.order.State.TheVariants.{Pending, Done}
use Rattle.regalloc2_parts.specs.Giving.{from_at, to_at, state_at, number_at, source_but, AreMovesApart, AreNexts, HasGiven, IsNextDone, IsMoveChain}
use Rattle.regalloc2_parts.specs.Giving.{IsMoveRing}
use Rattle.regalloc2_parts.specs.Giving.{IsGiving, HasGivenWhole, HasRings, AreRingsDone, HasWrittenFirst, IsPlain, is_done}
use Rattle.regalloc2_parts.proofs.Orders.{done_after, gives_one, opens_ring, closes_ring, source_other, source_cut}
use Rattle.regalloc2_parts.proofs.Chains.{length_push, at_end, at_left, at_last, left_or_last, set_here, chain_pop, ready_pop, writers_done, pending_done}
use Rattle.std.specs.List.{count_by}
use Rattle.std.proofs.lemmas.List.Elements.{All-push}
use Rattle.regalloc2_parts.proofs.Rings.{rings_one, rings_open, count_done}

-- a move that does not read `none` comes before all emitted moves
written_push : (given : List Ends) (m : Ends) → (m.from ≡ NoPlace → ⊥) → HasWrittenFirst given → HasWrittenFirst (given ++ m ∷ [])
unfolding WritesNoneFirst
written_push given m real had = subst (λ x. WritesNoneFirst x) (sym (reverse-append given (m ∷ []))) (real, λ n. had)

-- a move that writes `none` comes before all emitted moves
written_close : (given : List Ends) (m : Ends) → (m.from ≡ NoPlace → ⊥) → m.to ≡ NoPlace → HasWrittenFirst (given ++ m ∷ [])
unfolding WritesNoneFirst
written_close given m real into = subst (λ x. WritesNoneFirst x) (sym (reverse-append given (m ∷ []))) (real, λ n. absurd (n into))

-- a move from a place to a place is emitted
plain_push : (st : List State) (k : ℕ) (given : List Ends) (m : Ends) → k < length st → (state_at st k ≡ Done → ⊥) → (m.from ≡ NoPlace → ⊥) →
    (m.to ≡ NoPlace → ⊥) → IsPlain st given → IsPlain (set st k Done) (given ++ m ∷ [])
plain_push st k given m short open_ from to had same =
    let e : length (given ++ m ∷ []) ≡ length given + 1 = length-append given (m ∷ []) in
    let f : count_by is_done (set st k Done) ≡ count_by is_done st + 1 = count_done st k short open_ in
    All-push (λ (m : Ends). (m.from ≡ NoPlace → ⊥) × (m.to ≡ NoPlace → ⊥)) given m (had (omega arith)) (from, to)

one_more : (given : List Ends) (m : Ends) → length (given ++ m ∷ []) ≡ length given + 1
one_more given m = length-append given (m ∷ [])

-- a move from one place to another
pub record IsFromTo (m : Ends) (from to : Place) : Type 0 where
  pub from_is : m.from ≡ from
  pub to_is : m.to ≡ to

-- the chain with k at its end closes a ring at the move `next`, which is one of the chain
pub record ClosesRing (nexts : List ℕ) (st : List State) (chain : List ℕ) (k next many : ℕ) : Type 0 where
  pub is : IsMoveChain nexts st (chain ++ k ∷ [])
  pub next_is : number_at nexts k ≡ next
  pub next_in : next < many
  pub next_pending : state_at st next ≡ Pending

module _ (ms : List Ends) (nexts : List ℕ) (apart : AreMovesApart ms) (ns : AreNexts ms nexts) where
  -- the chain is emitted as it is
  pub gives_start : (st : List State) (chain : List ℕ) (given : List Ends) → HasGivenWhole ms nexts st given → IsMoveChain nexts st chain →
      ((i : ℕ) → i + 1 ≡ length chain → IsNextDone nexts st (number_at chain i)) → IsGiving ms nexts st chain given (length ms) (length ms)
  gives_start st chain given had is ready = record {
    had = had.had;
    is_chain = is;
    ready = ready;
    ring = inl (record { cut_past = refl; first_past = refl; rings = had.rings; written = had.written; plain = had.plain });
  }

  -- the chain ends in a ring: its last move is emitted as one from `none`
  pub gives_ring : (st : List State) (chain : List ℕ) (given : List Ends) (k next : ℕ) {m : Ends} → HasGiven (length ms) ms st given →
      (rings : HasRings nexts st (length given)) → AreRingsDone st rings.rings → ClosesRing nexts st chain k next (length ms) → length st ≡ length ms →
      IsFromTo m NoPlace (to_at ms k) → IsGiving ms nexts (set st k Done) chain (given ++ m ∷ []) k next
  gives_ring st chain given k next {m = m} had rings rings_done ring same goes =
      let is : IsMoveChain nexts st (chain ++ k ∷ []) = ring.is in
      let next_is : number_at nexts k ≡ next = ring.next_is in
      let next_in : next < length ms = ring.next_in in
      let next_pending : state_at st next ≡ Pending = ring.next_pending in
      let many : length nexts ≡ length ms = ns.as_many in
      let alike : length st ≡ length nexts = omega arith in
      let more : length (chain ++ k ∷ []) ≡ length chain + 1 = length_push chain k in
      let inside : number_at (chain ++ k ∷ []) (length chain) < length nexts = is.inside (length chain) (omega arith) in
      let within : k < length ms = let at : k < length nexts = subst (λ x. x < length nexts) (at_end chain k) inside in omega arith in
      let pends : state_at st k ≡ Pending = ap (λ x. state_at st x) (sym (at_end chain k)) ∙ is.pending (length chain) (omega arith) in
      let link : to_at ms next ≡ from_at ms k = ap (λ x. to_at ms x) (sym next_is) ∙ ns.found k within (subst (λ x. x < length ms) (sym next_is) next_in) in
      let old : (i : ℕ) × (i < length (chain ++ k ∷ [])) × (number_at (chain ++ k ∷ []) i ≡ next) = is.only next (omega arith) next_pending in
      let place : (i : ℕ) × (i < length chain) × (number_at chain i ≡ next) = ⊎_elim
      (λ l. (old.0, l, sym (at_left chain k old.0 l) ∙ old.2))
      (λ e. absurd (apart.away k within (sym link ∙ ap (λ x. to_at ms x) (sym old.2 ∙ at_last chain k old.0 e))))
      (left_or_last chain k old.0 old.1) in
      let longer : length given + 2 ≡ length (given ++ m ∷ []) + 1 = let e : length (given ++ m ∷ []) ≡ length given + 1 = one_more given m in omega arith in
      record {
        had = gives_one k k ms st given m
            (opens_ring k ms st given had (pending_done (state_at st k) pends))
            apart within same (pending_done (state_at st k) pends)
            (λ j r e. absurd (apart.to_some j r (e ∙ source_cut k ms k refl)))
            goes.to_is (goes.from_is ∙ sym (source_cut k ms k refl));
        is_chain = chain_pop nexts st chain k is alike;
        ready = ready_pop nexts st chain k is alike;
        ring = inr (record {
          cut_within = within;
          cut_done = set_here st k Done (omega arith);
          first_within = next_in;
          follows = link;
          stands = place;
          least = let e : length (given ++ m ∷ []) ≡ length given + 1 = one_more given m in let f : count_by is_done (set st k Done) ≡ count_by is_done st + 1 =
              count_done st k (omega arith) (pending_done (state_at st k) pends) in let was : length given ≡ count_by is_done st + length rings.rings =
              rings.counted in omega arith;
          rings = subst (λ x. HasRings nexts (set st k Done) x) longer (rings_open nexts st (length given) chain k next place.0 rings rings_done alike is
              next_is place.1 place.2);
        });
      }

  -- the last move of the chain is emitted
  gives_top : (st : List State) (chain : List ℕ) (given : List Ends) (k cut first : ℕ) (m : Ends) → IsGiving ms nexts st (chain ++ k ∷ []) given cut first →
      length st ≡ length ms → IsFromTo m (from_at ms k) (to_at ms k) → HasGiven cut ms (set st k Done) (given ++ m ∷ [])
  gives_top st chain given k cut first m is same goes =
      let many : length nexts ≡ length ms = ns.as_many in
      let more : length (chain ++ k ∷ []) ≡ length chain + 1 = length_push chain k in
      let inside : number_at (chain ++ k ∷ []) (length chain) < length nexts = is.is_chain.inside (length chain) (omega arith) in
      let within : k < length ms = let at : k < length nexts = subst (λ x. x < length nexts) (at_end chain k) inside in omega arith in
      let pends : state_at st k ≡ Pending = ap (λ x. state_at st x) (sym (at_end chain k)) ∙ is.is_chain.pending (length chain) (omega arith) in
      let ready : IsNextDone nexts st k = subst (λ x. IsNextDone nexts st x) (at_end chain k) (is.ready (length chain) (omega arith)) in
      let other : k ≡ cut → ⊥ = λ e. ⊎_elim
      (λ w. let a : cut ≡ length ms = w.cut_past in absurd (omega arith))
      (λ r. pending_done (state_at st k) pends (ap (λ x. state_at st x) e ∙ r.cut_done))
      is.ring in
      let from_same : source_but cut ms k ≡ from_at ms k = source_other cut ms k other in
      gives_one cut k ms st given m is.had apart within same (pending_done (state_at st k) pends)
      (λ j r e. writers_done ms nexts st k apart ns within ready j r (e ∙ from_same))
      goes.to_is (goes.from_is ∙ sym from_same)

  -- the emitted move is not the first of a ring
  pub gives_plain : (st : List State) (chain : List ℕ) (given : List Ends) (k cut first : ℕ) {m : Ends} →
      IsGiving ms nexts st (chain ++ k ∷ []) given cut first → length st ≡ length ms → (k ≡ first → ⊥) → IsFromTo m (from_at ms k) (to_at ms k) →
      IsGiving ms nexts (set st k Done) chain (given ++ m ∷ []) cut first
  gives_plain st chain given k cut first {m = m} is same other goes =
      let many : length nexts ≡ length ms = ns.as_many in
      let alike : length st ≡ length nexts = omega arith in
      let more : length (chain ++ k ∷ []) ≡ length chain + 1 = length_push chain k in
      let inside : number_at (chain ++ k ∷ []) (length chain) < length nexts = is.is_chain.inside (length chain) (omega arith) in
      let short : k < length st = let at : k < length nexts = subst (λ x. x < length nexts) (at_end chain k) inside in omega arith in
      let inside_k : k < length nexts = subst (λ x. x < length nexts) (at_end chain k) inside in
      let within : k < length ms = omega arith in
      let pends : state_at st k ≡ Pending = ap (λ x. state_at st x) (sym (at_end chain k)) ∙ is.is_chain.pending (length chain) (omega arith) in
      let ready : IsNextDone nexts st k = subst (λ x. IsNextDone nexts st x) (at_end chain k) (is.ready (length chain) (omega arith)) in
      record {
        had = gives_top st chain given k cut first m is same goes;
        is_chain = chain_pop nexts st chain k is.is_chain alike;
        ready = ready_pop nexts st chain k is.is_chain alike;
        ring = ⊎_elim (λ w. inl (record {
          cut_past = w.cut_past;
          first_past = w.first_past;
          rings = subst (λ x. HasRings nexts (set st k Done) x) (sym (one_more given m))
              (rings_one nexts st (length given) k w.rings alike inside_k (pending_done (state_at st k) pends) ready);
          written = written_push given m (λ e. apart.from_some k within (sym goes.from_is ∙ e)) w.written;
          plain = plain_push st k given m short (pending_done (state_at st k) pends) (λ e. apart.from_some k within (sym goes.from_is ∙ e))
              (λ e. apart.to_some k within (sym goes.to_is ∙ e)) w.plain;
        })) (λ r. inr (record {
          cut_within = r.cut_within;
          cut_done = done_after st k cut short r.cut_done;
          first_within = r.first_within;
          follows = r.follows;
          stands = ⊎_elim
              (λ l. (r.stands.0, l, sym (at_left chain k r.stands.0 l) ∙ r.stands.2))
              (λ e. absurd (other (sym (at_last chain k r.stands.0 e) ∙ r.stands.2)))
              (left_or_last chain k r.stands.0 r.stands.1);
          least = let e : length (given ++ m ∷ []) ≡ length given + 1 = one_more given m in let f : count_by is_done (set st k Done) ≡ count_by is_done st + 1 =
              count_done st k short (pending_done (state_at st k) pends) in let was : count_by is_done st ≤ length given = r.least in omega arith;
          rings = subst (λ x. HasRings nexts (set st k Done) (x + 1)) (sym (one_more given m))
              (rings_one nexts st (length given + 1) k r.rings alike inside_k (pending_done (state_at st k) pends) ready);
        })) is.ring;
      }

  -- the emitted move is the first of a ring, which is closed
  pub gives_first : (st : List State) (chain : List ℕ) (given : List Ends) (k cut first : ℕ) {m last : Ends} →
      IsGiving ms nexts st (chain ++ k ∷ []) given cut first → length st ≡ length ms → k ≡ first → IsFromTo m (from_at ms k) (to_at ms k) →
      IsFromTo last (from_at ms cut) NoPlace → IsGiving ms nexts (set st k Done) chain ((given ++ m ∷ []) ++ last ∷ []) (length ms) (length ms)
  gives_first st chain given k cut first {m = m} {last = last} is same it_is goes back =
      let many : length nexts ≡ length ms = ns.as_many in
      let alike : length st ≡ length nexts = omega arith in
      let more : length (chain ++ k ∷ []) ≡ length chain + 1 = length_push chain k in
      let inside : number_at (chain ++ k ∷ []) (length chain) < length nexts = is.is_chain.inside (length chain) (omega arith) in
      let short : k < length st = let at : k < length nexts = subst (λ x. x < length nexts) (at_end chain k) inside in omega arith in
      let inside_k : k < length nexts = subst (λ x. x < length nexts) (at_end chain k) inside in
      let within : k < length ms = omega arith in
      let pends : state_at st k ≡ Pending = ap (λ x. state_at st x) (sym (at_end chain k)) ∙ is.is_chain.pending (length chain) (omega arith) in
      let ready : IsNextDone nexts st k = subst (λ x. IsNextDone nexts st x) (at_end chain k) (is.ready (length chain) (omega arith)) in
      let r : IsMoveRing ms nexts st (chain ++ k ∷ []) given cut first = ⊎_elim (λ w. let a : first ≡ length ms = w.first_past in absurd (omega arith)) (λ r. r)
      is.ring in
      let longer : length given + 1 + 1 ≡ length ((given ++ m ∷ []) ++ last ∷ []) =
      let e : length (given ++ m ∷ []) ≡ length given + 1 = one_more given m in
      let f : length ((given ++ m ∷ []) ++ last ∷ []) ≡ length (given ++ m ∷ []) + 1 = one_more (given ++ m ∷ []) last in omega arith in
      record {
        had = closes_ring cut ms (set st k Done) (given ++ m ∷ []) last
            (gives_top st chain given k cut first m is same goes) apart r.cut_within
            (λ j inside_j e. ap (λ x. state_at (set st k Done) x) (apart.one_writer j first inside_j r.first_within (e ∙ sym r.follows) ∙ sym it_is)
            ∙ set_here st k Done short)
            back.to_is back.from_is;
        is_chain = chain_pop nexts st chain k is.is_chain alike;
        ready = ready_pop nexts st chain k is.is_chain alike;
        ring = inl (record {
          cut_past = refl;
          first_past = refl;
          rings = subst (λ x. HasRings nexts (set st k Done) x) longer (rings_one nexts st (length given + 1) k r.rings alike inside_k
              (pending_done (state_at st k) pends) ready);
          written = written_close (given ++ m ∷ []) last (λ e. apart.from_some cut r.cut_within (sym back.from_is ∙ e)) back.to_is;
          plain = λ same. absurd (let f : count_by is_done (set st k Done) ≡ count_by is_done st + 1 = count_done st k short
              (pending_done (state_at st k) pends) in let was : count_by is_done st ≤ length given = r.least in omega arith);
        });
      }

-- no ring is open once the chain is empty
pub ends_whole : (ms : List Ends) (nexts : List ℕ) (st : List State) (chain : List ℕ) (given : List Ends) (cut first : ℕ) →
    IsGiving ms nexts st chain given cut first → length chain ≡ 0 → HasGivenWhole ms nexts st given
ends_whole ms nexts st chain given cut first is empty = ⊎_elim
    (λ w. record { had = subst (λ x. HasGiven x ms st given) w.cut_past is.had; rings = w.rings; written = w.written; plain = w.plain })
    (λ r. let low : r.stands.0 < length chain = r.stands.1 in absurd (omega arith))
    is.ring

-- a ring is open while its first move is emitted
pub cut_within : (ms : List Ends) (nexts : List ℕ) (st : List State) (chain : List ℕ) (given : List Ends) (cut first : ℕ) →
    IsGiving ms nexts st chain given cut first → first < length ms → cut < length ms
cut_within ms nexts st chain given cut first is low = ⊎_elim
    (λ w. let a : first ≡ length ms = w.first_past in absurd (omega arith))
    (λ r. r.cut_within)
    is.ring
