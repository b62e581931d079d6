-- Lemmas on what a resolver of scratch places hands out, and on what it makes of moves.
use Rattle.std.proofs.Common.{◌≡◌, ◌≢◌, ◌≤◌, ◌<◌, ◌+◌, Bool, true, false, List, [], ◌∷◌, ◌++◌, length, map, get_or, Option, Some, None, ◌⊎◌, inl, inr}
use Rattle.std.proofs.Common.{refl, sym, ap, ◌∙◌, subst, ⊎_elim, arith, length-append}
use Rattle.std.specs.Prelude.{Contains}
use Rattle.std.specs.List.{All, FoldsTo}
use Rattle.std.proofs.lemmas.Fn.{FoldsTo-push}
use Rattle.std.proofs.lemmas.List.{get_or-map, length-map, append-nil}
use Rattle.std.proofs.lemmas.List.Elements.{Contains-get_or, Contains-append_left, Contains-push}
use Rattle.regalloc2_names.specs.Place.{Place, NoPlace}
use Rattle.regalloc2_parts.specs.declared.moves.scratch.Handed.{Handed}
use Rattle.regalloc2_parts.specs.declared.moves.scratch.Handed.TheVariants.{Register, Slot}
use Rattle.regalloc2_parts.specs.declared.moves.resolved.MoveVecWithScratch.{MoveVecWithScratch}
use Rattle.regalloc2_parts.specs.declared.moves.resolved.MoveVecWithScratch.TheVariants.{NoScratch, Scratch}
use Rattle.regalloc2_parts.specs.AtOnce.{ends_of, own_names, in_turn, WritesNoneFirst}
use Rattle.regalloc2_parts.specs.Resolved.{moves_listed, has_scratch, with_place, place_or, filled, IsRunnable, IsUnnamed, AreBetweenPlaces}
use Rattle.regalloc2_parts.specs.declared.moves.passing.Held.{Held}
use Rattle.regalloc2_parts.specs.declared.moves.passing.Held.TheVariants.{Free, InRegister}
use Rattle.regalloc2_parts.specs.declared.moves.passing.ScratchReg.{ScratchReg}
use Rattle.regalloc2_parts.specs.Tracking.{CanExpand, IsExpanded, IsMade, IsEither, IsUnused}
use Rattle.regalloc2_parts.specs.Computed.{Asked, MayBeAskedTwice, Owes, IsHanding, IsRefusing, IsVia, IsPlaceChosen, IsAnswer, IsComputed}
use Rattle.regalloc2_parts.specs.Computed.{AreApartOnStack, AreSeenApart, handed_place}
use Rattle.regalloc2_parts.proofs.Filling.{fills_same, fills_real, or_some, or_none}
use Rattle.regalloc2_parts.proofs.Places.{cases_place}

-- an end of a filled move is one of the given move's, or the scratch place
ends_filled : (s p q : Place) → q ≡ place_or s p → (q ≡ s) ⊎ (q ≡ p)
ends_filled s p q e = ⊎_elim (λ none. inl (e ∙ or_none s p none)) (λ some. inr (e ∙ or_some s p some)) (cases_place p NoPlace)

module _ {T : Type 0} where
  -- what no given move names, no filled one does, but for the scratch place
  fills_unnamed : (s r : Place) (ms : List (Place × Place × T)) → r ≢ s → IsUnnamed r ms → IsUnnamed r (map (filled s) ms)
  fills_unnamed s r ms other free k d low =
      let many : length (map (filled s) ms) ≡ length ms = length-map ms (filled s) in
      let here : k < length ms = omega arith in
      let m : Place × Place × T = get_or ms k d in
      let was : (m.0 ≢ r) × (m.1 ≢ r) = free k d here in
      subst (λ (x : Place × Place × T). (x.0 ≢ r) × (x.1 ≢ r)) (sym (get_or-map (filled s) ms k d d here)) (
        (λ e. ⊎_elim (λ h. other (sym e ∙ h)) (λ h. was.0 (sym h ∙ e)) (ends_filled s m.0 (place_or s m.0) refl)),
        (λ e. ⊎_elim (λ h. other (sym e ∙ h)) (λ h. was.1 (sym h ∙ e)) (ends_filled s m.1 (place_or s m.1) refl)),
      )

  -- a filled move comes from a given one
  from_filled : (s : Place) (ms : List (Place × Place × T)) (x : Place × Place × T) → Contains (map (filled s) ms) x → (n : Place × Place × T) × Contains ms n
      × (filled s n ≡ x)
  from_filled s ms x h =
      let many : length (map (filled s) ms) ≡ length ms = length-map ms (filled s) in
      let low : h.0 < length (map (filled s) ms) = h.1 in
      let here : h.0 < length ms = omega arith in
      (get_or ms h.0 x, Contains-get_or ms h.0 x here, sym (get_or-map (filled s) ms h.0 x x here) ∙ h.2)

-- a longer list of returned places has what a shorter one has
answered_more : (rs ss qs ts : List (Option Place)) (p : Place) → IsAnswer rs ss p → IsAnswer (rs ++ qs) (ss ++ ts) p
answered_more rs ss qs ts p h = ⊎_elim (λ l. inl (Contains-append_left rs qs (Some p) l)) (λ r. inr (Contains-append_left ss ts (Some p) r)) h

-- a list that needs no scratch place is as it is
pub unfilled : {T A : Type 0} (s : Place) (moves : MoveVecWithScratch T A) → has_scratch moves ≡ false → with_place s moves ≡ moves_listed moves
unfilled s (NoScratch ms) e = refl
unfilled s (Scratch ms) e = let no : true ≡ false = e in absurd cc

-- the moves with a scratch place chosen, where they need one
abbrev pub IsChoice : {F G T A : Type 0} → (F → Option Place → F → Type 0) → (G → Option Place → G → Type 0) → F → F → G → G → MoveVecWithScratch T A →
    List (Place × Place × T) → Type 0
IsChoice registers slots f f' g g' moves made =
    ((has_scratch moves ≡ false) × (f' ≡ f) × (g' ≡ g) × (made ≡ moves_listed moves))
    ⊎ ((h : Handed) × (has_scratch moves ≡ true) × IsHanding registers slots f f' g g' h × (made ≡ with_place (handed_place h) moves))

-- the place that was chosen, put where the moves need one
pub choice : {F G T A : Type 0} (registers : F → Option Place → F → Type 0) (slots : G → Option Place → G → Type 0) (f f' : F) (g g' : G)
    (moves : MoveVecWithScratch T A) (made : List (Place × Place × T)) (is_needed : Bool) (s : Place) → is_needed ≡ has_scratch moves →
    IsPlaceChosen registers slots f f' g g' is_needed s → made ≡ with_place s moves → IsChoice registers slots f f' g g' moves made
choice registers slots f f' g g' moves made is_needed s same had e = ⊎_elim
    (λ no. let none : has_scratch moves ≡ false = sym same ∙ no.0 in inl (none, no.1, no.2, e ∙ unfilled s moves none))
    (λ yes. inr (yes.0, sym same ∙ yes.1, yes.2, e ∙ ap (λ p. with_place p moves) yes.3))
    had

module _ {F G T : Type 0} (registers : F → Option Place → F → Type 0) (slots : G → Option Place → G → Type 0) (stack : Place → Bool → Type 0)
    (borrowed : Place) where
  -- what stands once the scratch place is chosen, where one is needed
  pub record Chosen (given : List (Place × Place × T)) (scratch : Bool) (f f' : F) (g g' : G) (made : List (Place × Place × T)) : Type 0 where
    pub rs : List (Option Place)
    pub ss : List (Option Place)
    pub rs_few : length rs ≤ 1
    pub ss_few : length ss ≤ 1
    pub rs_calls : FoldsTo registers f rs f'
    pub ss_calls : FoldsTo slots g ss g'
    pub between : AreBetweenPlaces made
    pub same : (q : Place) → q ≢ NoPlace → (IsAnswer rs ss q → ⊥) → in_turn (ends_of made) own_names q ≡ in_turn (ends_of given) own_names q
    pub sources : (x : Place × Place × T) → Contains made x → IsAnswer rs ss x.0 ⊎ ((n : Place × Place × T) × Contains given n × (x.0 ≡ n.0))
    pub targets : (x : Place × Place × T) → Contains made x → IsAnswer rs ss x.1 ⊎ ((n : Place × Place × T) × Contains given n × (x.1 ≡ n.1) × (x.2 ≡ n.2))
    pub plain : scratch ≡ false → made ≡ given
    pub free : (r : Place) (t : F) → registers f' (Some r) t → (r ≢ NoPlace) × IsUnnamed r made × (stack r true → ⊥)
    pub unused : (r : Place) (t : G) → slots g' (Some r) t → (r ≢ NoPlace) × IsUnnamed r made

  -- none was needed
  chosen_none : (given made : List (Place × Place × T)) (f f' : F) (g g' : G) → Owes registers slots stack borrowed given f g → AreBetweenPlaces given →
      f' ≡ f → g' ≡ g → made ≡ given → Chosen given false f f' g g' made
  chosen_none given made f f' g g' owes real ef eg e = record {
    rs = [];
    ss = [];
    rs_few = omega arith;
    ss_few = omega arith;
    rs_calls = sym ef;
    ss_calls = sym eg;
    between = subst (λ x. AreBetweenPlaces x) (sym e) real;
    same = λ q some n. ap (λ x. in_turn (ends_of x) own_names q) e;
    sources = λ x h. inr (x, subst (λ xs. Contains xs x) e h, refl);
    targets = λ x h. inr (x, subst (λ xs. Contains xs x) e h, refl, refl);
    plain = λ h. e;
    free = λ r t step.
        let first : registers f (Some r) t = subst (λ x. registers x (Some r) t) ef step in
        let was = owes.free r (inl (t, first)) in
        (was.0, subst (λ x. IsUnnamed r x) (sym e) was.1, owes.no_memory r (inl (t, first)));
    unused = λ r t step.
        let first : slots g (Some r) t = subst (λ x. slots x (Some r) t) eg step in
        let was = owes.unused r (inl (t, first)) in
        (was.0, subst (λ x. IsUnnamed r x) (sym e) was.1);
  }

  -- the ends of a move filled with a returned place
  sources_filled : (rs ss : List (Option Place)) (s : Place) (given made : List (Place × Place × T)) → IsAnswer rs ss s → made ≡ map (filled s) given →
      (x : Place × Place × T) → Contains made x → IsAnswer rs ss x.0 ⊎ ((n : Place × Place × T) × Contains given n × (x.0 ≡ n.0))
  sources_filled rs ss s given made answered e x h =
      let n = from_filled s given x (subst (λ xs. Contains xs x) e h) in
      ⊎_elim
      (λ here. inl (subst (λ p. IsAnswer rs ss p) (sym here) answered))
      (λ there. inr (n.0, n.1, there))
      (ends_filled s (n.0).0 x.0 (ap (λ (y : Place × Place × T). y.0) (sym n.2)))

  targets_filled : (rs ss : List (Option Place)) (s : Place) (given made : List (Place × Place × T)) → IsAnswer rs ss s → made ≡ map (filled s) given →
      (x : Place × Place × T) → Contains made x → IsAnswer rs ss x.1 ⊎ ((n : Place × Place × T) × Contains given n × (x.1 ≡ n.1) × (x.2 ≡ n.2))
  targets_filled rs ss s given made answered e x h =
      let n = from_filled s given x (subst (λ xs. Contains xs x) e h) in
      ⊎_elim
      (λ here. inl (subst (λ p. IsAnswer rs ss p) (sym here) answered))
      (λ there. inr (n.0, n.1, there, ap (λ (y : Place × Place × T). y.2) (sym n.2)))
      (ends_filled s (n.0).1 x.1 (ap (λ (y : Place × Place × T). y.1) (sym n.2)))

  same_filled : (rs ss : List (Option Place)) (s : Place) (given made : List (Place × Place × T)) → s ≢ NoPlace → IsUnnamed s given →
      WritesNoneFirst (ends_of given) → IsAnswer rs ss s → made ≡ map (filled s) given → (q : Place) → q ≢ NoPlace → (IsAnswer rs ss q → ⊥) →
      in_turn (ends_of made) own_names q ≡ in_turn (ends_of given) own_names q
  same_filled rs ss s given made fresh free first answered e q some n =
      ap (λ x. in_turn (ends_of x) own_names q) e ∙
      fills_same s fresh given own_names own_names free first (λ p a b. refl) q (λ h. n (subst (λ p. IsAnswer rs ss p) (sym h) answered)) some

  -- a register was chosen
  chosen_register : (given made : List (Place × Place × T)) (f f' : F) (g g' : G) (s : Place) → Owes registers slots stack borrowed given f g →
      WritesNoneFirst (ends_of given) → registers f (Some s) f' → g' ≡ g → made ≡ map (filled s) given → Chosen given true f f' g g' made
  chosen_register given made f f' g g' s owes first step eg e =
      let was : (s ≢ NoPlace) × IsUnnamed s given = owes.free s (inl (f', step)) in
      let answered : IsAnswer (Some s ∷ []) [] s = inl (0, omega arith, refl) in
      record {
        rs = Some s ∷ [];
        ss = [];
        rs_few = omega arith;
        ss_few = omega arith;
        rs_calls = (f', step, refl);
        ss_calls = sym eg;
        between = subst (λ x. AreBetweenPlaces x) (sym e) (fills_real s was.0 given);
        same = same_filled (Some s ∷ []) [] s given made was.0 was.1 first answered e;
        sources = sources_filled (Some s ∷ []) [] s given made answered e;
        targets = targets_filled (Some s ∷ []) [] s given made answered e;
        plain = λ h. absurd cc;
        free = λ r t next.
            let later = inr (Some s, f', t, step, next) in
            let free = owes.free r later in (
              free.0,
              subst (λ x. IsUnnamed r x) (sym e) (fills_unnamed s r given (λ h. owes.registers_differ s r f' t step next (sym h)) free.1),
              owes.no_memory r later,
            );
        unused = λ r t next.
            let now : slots g (Some r) t = subst (λ x. slots x (Some r) t) eg next in
            let free = owes.unused r (inl (t, now)) in
            (free.0, subst (λ x. IsUnnamed r x) (sym e) (fills_unnamed s r given (λ h. owes.apart s r (inl (f', step)) (inl (t, now)) (sym h)) free.1));
      }

  -- a slot was chosen
  chosen_slot : (given made : List (Place × Place × T)) (f f' : F) (g g' : G) (s : Place) → Owes registers slots stack borrowed given f g →
      WritesNoneFirst (ends_of given) → registers f None f' → slots g (Some s) g' → made ≡ map (filled s) given → Chosen given true f f' g g' made
  chosen_slot given made f f' g g' s owes first asked step e =
      let was : (s ≢ NoPlace) × IsUnnamed s given = owes.unused s (inl (g', step)) in
      let answered : IsAnswer (None ∷ []) (Some s ∷ []) s = inr (0, omega arith, refl) in
      record {
        rs = None ∷ [];
        ss = Some s ∷ [];
        rs_few = omega arith;
        ss_few = omega arith;
        rs_calls = (f', asked, refl);
        ss_calls = (g', step, refl);
        between = subst (λ x. AreBetweenPlaces x) (sym e) (fills_real s was.0 given);
        same = same_filled (None ∷ []) (Some s ∷ []) s given made was.0 was.1 first answered e;
        sources = sources_filled (None ∷ []) (Some s ∷ []) s given made answered e;
        targets = targets_filled (None ∷ []) (Some s ∷ []) s given made answered e;
        plain = λ h. absurd cc;
        free = λ r t next.
            let later = inr (None, f', t, asked, next) in
            let free = owes.free r later in
            (free.0, subst (λ x. IsUnnamed r x) (sym e) (fills_unnamed s r given (owes.apart r s later (inl (g', step))) free.1), owes.no_memory r later);
        unused = λ r t next.
            let later = inr (Some s, g', t, step, next) in
            let free = owes.unused r later in
            (free.0, subst (λ x. IsUnnamed r x) (sym e) (fills_unnamed s r given (λ h. owes.slots_differ s r g' t step next (sym h)) free.1));
      }

  -- with each choice of the scratch place, moves that can be run are chosen for
  pub chosen : {A : Type 0} (moves : MoveVecWithScratch T A) (made : List (Place × Place × T)) (f f' : F) (g g' : G) →
      Owes registers slots stack borrowed (moves_listed moves) f g → IsRunnable moves → IsChoice registers slots f f' g g' moves made →
      Chosen (moves_listed moves) (has_scratch moves) f f' g g' made
  chosen (NoScratch ms) made f f' g g' owes run (inl c) = chosen_none ms.items made f f' g g' owes run c.1 c.2 c.3
  chosen (NoScratch ms) made f f' g g' owes run (inr c) = let no : false ≡ true = c.1 in absurd cc
  chosen (Scratch ms) made f f' g g' owes run (inl c) = let no : true ≡ false = c.0 in absurd cc
  chosen (Scratch ms) made f f' g g' owes run (inr (Register s, e, h, m)) = chosen_register ms.items made f f' g g' s owes run h.0 h.1 m
  chosen (Scratch ms) made f f' g g' owes run (inr (Slot s, e, h, m)) = chosen_slot ms.items made f f' g g' s owes run h.0 h.1 m

  -- no move is stack-to-stack, and so the moves stay
  computed_at_once : (given made : List (Place × Place × T)) (scratch : Bool) (f f' : F) (g g' : G) (c : Chosen given scratch f f' g g' made) →
      AreSeenApart stack made → IsComputed stack borrowed (IsAnswer c.rs c.ss) scratch given made
  computed_at_once given made scratch f f' g g' c apart = record {
    same = c.same;
    each = λ k d low.
        let x : Place × Place × T = get_or made k d in
        let h : Contains made x = Contains-get_or made k d low in
        record {
          apart = ⊎_elim (λ a. inl (inl a)) (λ a. inr (inl a)) (apart k d low);
          between = c.between k d low;
          source = ⊎_elim (λ a. inl (inl a)) (λ n. inr n) (c.sources x h);
          target = ⊎_elim (λ a. inl (inl a)) (λ n. inr n) (c.targets x h);
        };
    plain = λ e a. c.plain e;
  }

  -- moves were made by way of a register
  computed_by_way : (given made out : List (Place × Place × T)) (scratch : Bool) (f f' : F) (g g' : G) (c : Chosen given scratch f f' g g' made)
      (qs ts : List (Option Place)) (register save : Place) → (IsAnswer (c.rs ++ qs) (c.ss ++ ts) register ⊎ (register ≡ borrowed)) →
      IsAnswer (c.rs ++ qs) (c.ss ++ ts) save → (AreApartOnStack stack made → ⊥) →
      ((q : Place) → q ≢ save → in_turn (ends_of out) own_names q ≡ in_turn (ends_of made) own_names q) → All (IsMade stack register save made) out →
      IsComputed stack borrowed (IsAnswer (c.rs ++ qs) (c.ss ++ ts)) scratch given out
  computed_by_way given made out scratch f f' g g' c qs ts register save lent_register lent_save some same each =
      let Lent : Place → Type 0 = λ p. IsAnswer (c.rs ++ qs) (c.ss ++ ts) p ⊎ (p ≡ borrowed) in
      let lent : (p : Place) → IsEither register save p → Lent p = λ p h. ⊎_elim
      (λ r. subst Lent (sym r) lent_register)
      (λ s. inl (subst (λ x. IsAnswer (c.rs ++ qs) (c.ss ++ ts) x) (sym s) lent_save)) h in
      record {
        same = λ q real n.
            same q (λ e. n (subst (λ x. IsAnswer (c.rs ++ qs) (c.ss ++ ts) x) (sym e) lent_save)) ∙
            c.same q real (λ h. n (answered_more c.rs c.ss qs ts q h));
        each = λ k d low.
            let x : Place × Place × T = get_or out k d in
            let m : IsMade stack register save made x = each k d low in
            record {
              apart = m.apart;
              between = m.between;
              source = ⊎_elim (λ o. inl (lent x.0 o))
                  (λ n. ⊎_elim
                  (λ a. inl (inl (answered_more c.rs c.ss qs ts x.0 (subst (λ p. IsAnswer c.rs c.ss p) (sym n.2) a))))
                  (λ k. inr (k.0, k.1, n.2 ∙ k.2))
                  (c.sources n.0 n.1))
                  m.source;
              target = ⊎_elim (λ o. inl (lent x.1 o))
                  (λ n. ⊎_elim
                  (λ a. inl (inl (answered_more c.rs c.ss qs ts x.1 (subst (λ p. IsAnswer c.rs c.ss p) (sym n.2) a))))
                  (λ k. inr (k.0, k.1, n.2 ∙ k.2, n.3 ∙ k.3))
                  (c.targets n.0 n.1))
                  m.target;
            };
        plain = λ e a. absurd (some (subst (λ xs. AreApartOnStack stack xs) (sym (c.plain e)) a));
      }

  -- what was returned the first time, and the second
  abbrev asked_registers : (given made : List (Place × Place × T)) (scratch : Bool) (f f' : F) (g g' : G) → Chosen given scratch f f' g g' made →
      Asked registers f f'
  asked_registers given made scratch f f' g g' c = record { answers = c.rs; few = let few : length c.rs ≤ 1 = c.rs_few in omega arith; calls = c.rs_calls }

  abbrev asked_slots : (given made : List (Place × Place × T)) (scratch : Bool) (f f' : F) (g g' : G) → Chosen given scratch f f' g g' made → Asked slots g g'
  asked_slots given made scratch f f' g g' c = record { answers = c.ss; few = let few : length c.ss ≤ 1 = c.ss_few in omega arith; calls = c.ss_calls }

  abbrev more_registers : (given made : List (Place × Place × T)) (scratch : Bool) (f f' f'' : F) (g g' : G) (c : Chosen given scratch f f' g g' made)
      (r : Option Place) → registers f' r f'' → Asked registers f f''
  more_registers given made scratch f f' f'' g g' c r step = record {
    answers = c.rs ++ r ∷ [];
    few = let few : length c.rs ≤ 1 = c.rs_few in let more : length (c.rs ++ r ∷ []) ≡ length c.rs + 1 = length-append c.rs (r ∷ []) in omega arith;
    calls = FoldsTo-push registers f c.rs f' r f'' c.rs_calls step;
  }

  abbrev more_slots : (given made : List (Place × Place × T)) (scratch : Bool) (f f' : F) (g g' g'' : G) (c : Chosen given scratch f f' g g' made)
      (r : Option Place) → slots g' r g'' → Asked slots g g''
  more_slots given made scratch f f' g g' g'' c r step = record {
    answers = c.ss ++ r ∷ [];
    few = let few : length c.ss ≤ 1 = c.ss_few in let more : length (c.ss ++ r ∷ []) ≡ length c.ss + 1 = length-append c.ss (r ∷ []) in omega arith;
    calls = FoldsTo-push slots g c.ss g' r g'' c.ss_calls step;
  }

  -- no slot was requested the second time
  abbrev no_more_slots : (given made : List (Place × Place × T)) (scratch : Bool) (f f' : F) (g g' g'' : G) (c : Chosen given scratch f f' g g' made) →
      g'' ≡ g' → Asked slots g g''
  no_more_slots given made scratch f f' g g' g'' c e = record {
    answers = c.ss ++ [];
    few = let few : length c.ss ≤ 1 = c.ss_few in let same : length (c.ss ++ []) ≡ length c.ss = ap length (append-nil c.ss) in omega arith;
    calls = subst (λ x. FoldsTo slots g (c.ss ++ []) x) (sym e) (subst (λ xs. FoldsTo slots g xs g') (sym (append-nil c.ss)) c.ss_calls);
  }

  -- all places requested, and the moves made: nothing more than a scratch place
  pub computes_at_once : (given made : List (Place × Place × T)) (scratch : Bool) (f f' : F) (g g' : G) → Chosen given scratch f f' g g' made →
      AreSeenApart stack made → (a : Asked registers f f') × (b : Asked slots g g')
      × IsComputed stack borrowed (IsAnswer a.answers b.answers) scratch given made
  computes_at_once given made scratch f f' g g' c apart =
      (asked_registers given made scratch f f' g g' c, asked_slots given made scratch f f' g g' c, computed_at_once given made scratch f f' g g' c apart)

  -- no place was left for stack-to-stack moves
  pub computes_refused : (given made : List (Place × Place × T)) (scratch : Bool) (f f' f'' : F) (g g' g'' : G) → Chosen given scratch f f' g g' made →
      IsRefusing registers slots f' f'' g' g'' → (a : Asked registers f f'') × (b : Asked slots g g'') × Contains b.answers None
  computes_refused given made scratch f f' f'' g g' g'' c h =
      (more_registers given made scratch f f' f'' g g' c None h.0, more_slots given made scratch f f' g g' g'' c None h.1, Contains-push c.ss None)

  -- moves can be made by way of what was handed out
  pub can_expand : {given made : List (Place × Place × T)} {scratch : Bool} {f f' : F} {g g' : G} (f'' : F) (g'' : G) → Chosen given scratch f f' g g' made →
      (stack borrowed true → ⊥) → borrowed ≢ NoPlace → (h : Handed) → IsHanding registers slots f' f'' g' g'' h → (via : ScratchReg) (first : Held) →
      IsVia h borrowed via first → CanExpand stack via.register via.save first made
  can_expand {made = made} f'' g'' c away real (Register p) h via first is =
      let was = c.free p f'' h.0 in
      record {
        no_memory = λ x. was.2 (subst (λ q. stack q true) is.0 x);
        first = subst (λ x. IsUnused x) (sym is.2) tt;
        fits = λ e. is.0 ∙ sym is.1;
        unnamed = subst (λ q. IsUnnamed q made) (sym is.1) was.1;
        real = ((λ e. was.0 (sym is.0 ∙ e)), (λ e. was.0 (sym is.1 ∙ e)));
        between = c.between;
      }
  can_expand {made = made} f'' g'' c away real (Slot p) h via first is =
      let was = c.unused p g'' h.1 in
      record {
        no_memory = λ x. away (subst (λ q. stack q true) is.0 x);
        first = subst (λ x. IsUnused x) (sym is.2) tt;
        fits = λ e. let no : InRegister ≡ Free = sym is.2 ∙ e in absurd cc;
        unnamed = subst (λ q. IsUnnamed q made) (sym is.1) was.1;
        real = ((λ e. real (sym is.0 ∙ e)), (λ e. was.0 (sym is.1 ∙ e)));
        between = c.between;
      }

  -- all places requested, and the moves made by way of what was handed out
  pub computes_by_way : {given made : List (Place × Place × T)} {scratch : Bool} {f f' : F} {g g' : G} (f'' : F) (g'' : G) →
      Chosen given scratch f f' g g' made →
      (AreApartOnStack stack made → ⊥) → (h : Handed) → IsHanding registers slots f' f'' g' g'' h → (via : ScratchReg) (first : Held) →
      IsVia h borrowed via first
      → (a : Asked registers f f'') × (b : Asked slots g g'') × ((out : List (Place × Place × T)) → IsExpanded stack via.register via.save made out →
      IsComputed stack borrowed (IsAnswer a.answers b.answers) scratch given out)
  computes_by_way {given = given} {made = made} {scratch = scratch} {f = f} {f' = f'} {g = g} {g' = g'} f'' g'' c some (Register p) h via first is =
      let answered : (q : Place) → q ≡ p → IsAnswer (c.rs ++ Some p ∷ []) (c.ss ++ []) q = λ q e. inl
      (subst (λ x. Contains (c.rs ++ Some p ∷ []) (Some x)) (sym e) (Contains-push c.rs (Some p))) in (
        more_registers given made scratch f f' f'' g g' c (Some p) h.0,
        no_more_slots given made scratch f f' g g' g'' c h.1,
        (λ out x. computed_by_way given made out scratch f f' g g' c (Some p ∷ []) [] via.register via.save (inl (answered via.register is.0))
            (answered via.save is.1) some x.same x.each),
      )
  computes_by_way {given = given} {made = made} {scratch = scratch} {f = f} {f' = f'} {g = g} {g' = g'} f'' g'' c some (Slot p) h via first is = (
    more_registers given made scratch f f' f'' g g' c None h.0,
    more_slots given made scratch f f' g g' g'' c (Some p) h.1,
    (λ out x. computed_by_way given made out scratch f f' g g' c (None ∷ []) (Some p ∷ []) via.register via.save (inr is.0)
        (inr (subst (λ y. Contains (c.ss ++ Some p ∷ []) (Some y)) (sym is.1) (Contains-push c.ss (Some p)))) some x.same x.each),
  )

-- what may be called twice may be called again once a scratch place is chosen
pub may_ask_again : {F G T A : Type 0} (registers : F → Option Place → F → Type 0) (slots : G → Option Place → G → Type 0) (pre : F → Type 0)
    (slots_pre : G → Type 0) (moves : MoveVecWithScratch T A) (made : List (Place × Place × T)) (f f' : F) (g g' : G)
    → MayBeAskedTwice registers pre f → MayBeAskedTwice slots slots_pre g → IsChoice registers slots f f' g g' moves made → pre f' × slots_pre g'
may_ask_again registers slots pre slots_pre moves made f f' g g' a b (inl c) = (subst pre (sym c.1) a.0, subst slots_pre (sym c.2) b.0)
may_ask_again registers slots pre slots_pre moves made f f' g g' a b (inr (Register p, e, h, m)) = (a.1 (Some p) f' h.0, subst slots_pre (sym h.1) b.0)
may_ask_again registers slots pre slots_pre moves made f f' g g' a b (inr (Slot p, e, h, m)) = (a.1 None f' h.0, b.1 (Some p) g' h.1)

-- neither a register nor a slot was there for a scratch place
pub refused_first : {F G : Type 0} (registers : F → Option Place → F → Type 0) (slots : G → Option Place → G → Type 0) (f f' : F) (g g' : G) →
    IsRefusing registers slots f f' g g' → (a : Asked registers f f') × (b : Asked slots g g') × Contains b.answers None
refused_first registers slots f f' g g' h = (
  record { answers = None ∷ []; few = omega arith; calls = (f', h.0, refl) },
  record { answers = None ∷ []; few = omega arith; calls = (g', h.1, refl) },
  (0, omega arith, refl),
)

-- what a closure returned, where the closure and the list are the same
pub not_apart : {S T : Type 0} (post : S → Place → Bool → Type 0) (f f' : S) (xs ys : List (Place × Place × T)) → f ≡ f' → xs ≡ ys →
    (AreApartOnStack (λ p b. post f p b) xs → true ≡ false) → AreApartOnStack (λ p b. post f' p b) ys → ⊥
not_apart post f f' xs ys ef e some a =
    let no : true ≡ false = some (subst (λ s. AreApartOnStack (λ p b. post s p b) xs) (sym ef)
    (subst (λ zs. AreApartOnStack (λ p b. post f' p b) zs) (sym e) a)) in absurd cc
