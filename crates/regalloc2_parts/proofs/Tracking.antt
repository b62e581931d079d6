-- Lemmas on moves by way of a register.
use Rattle.std.proofs.Common.{◌≡◌, ◌≢◌, ℕ, List, [], ◌∷◌, ◌++◌, length, get_or, take, ◌+◌, ◌<◌, ◌≤◌, ◌⊎◌, inl, inr, refl, sym, ap, ◌∙◌, subst, ⊎_elim}
use Rattle.std.specs.Prelude.{Contains, Bool, true, false}
use Rattle.std.proofs.lemmas.List.Elements.{All-contains, Contains-get_or, Contains-push_cases}
use Rattle.std.specs.List.{All}
use Rattle.std.proofs.lemmas.List.{take_more, take_all}
use Rattle.regalloc2_names.specs.Place.{Place, NoPlace}
use Rattle.regalloc2_parts.specs.declared.moves.passing.Held.{Held}
use Rattle.regalloc2_parts.specs.declared.moves.passing.Held.TheVariants.{Free, InRegister, InBoth, InSave}
use Rattle.regalloc2_parts.specs.AtOnce.{Ends, ends, ends_of, no_move, CellsOf, moved, in_turn}
use Rattle.regalloc2_parts.specs.Giving.{from_at, to_at}
use Rattle.regalloc2_parts.specs.Tracking.{Tracks, FreeNeedsNoSave, CanPass, IsUnused, SavesOrRestores, GoesThrough, IsMadeFor, IsMade, stands_where}
use Rattle.regalloc2_parts.proofs.Places.{cases_place, moved_here, moved_other}
use Rattle.regalloc2_parts.proofs.Lists.{ends_push}

-- one more move at the end
in_turn-end : (ms : List Ends) (m : Ends) (c : CellsOf Place) → in_turn (ms ++ m ∷ []) c ≡ moved (in_turn ms c) m.to (in_turn ms c m.from)
unfolding in_turn
in_turn-end [] m c = refl
in_turn-end (x ∷ ms) m c = in_turn-end ms m (moved c x.to (c x.from))

-- the cells after one more move
pub pushed : {T : Type 0} (old new : List (Place × Place × T)) (m : Place × Place × T) → new ≡ old ++ m ∷ [] → (d : CellsOf Place) →
    in_turn (ends_of new) d ≡ moved (in_turn (ends_of old) d) m.1 (in_turn (ends_of old) d m.0)
pushed old new m e d = ap (λ x. in_turn (ends_of x) d) e ∙ ap (λ x. in_turn x d) (ends_push old m) ∙ in_turn-end (ends_of old) (ends m) d

module _ (r s : Place) where
  -- the register is saved
  saves : (c d : CellsOf Place) → Tracks r s InRegister c d → Tracks r s InSave c (moved d s (d r))
  saves c d had = record {
    fits = λ e. absurd cc;
    others = λ q n m. moved_other d s q (d r) (λ e. m (sym e)) ∙ had.others q n m;
    borrowed = λ differ. moved_here d s s (d r) refl ∙ had.borrowed differ;
  }

  -- the register is saved once a move from it to the save slot is pushed
  pub saves_pushed : {T : Type 0} (c d : CellsOf Place) (old new : List (Place × Place × T)) (m : Place × Place × T) → m.0 ≡ r → m.1 ≡ s → new ≡ old ++ m ∷ [] →
      Tracks r s InRegister c (in_turn (ends_of old) d) → Tracks r s InSave c (in_turn (ends_of new) d)
  saves_pushed c d old new m from to e had =
      subst (λ x. Tracks r s InSave c x) (sym (pushed old new m e d ∙ ap (λ p. moved (in_turn (ends_of old) d) m.1 (in_turn (ends_of old) d p)) from
      ∙ ap (λ p. moved (in_turn (ends_of old) d) p (in_turn (ends_of old) d r)) to))
      (saves c (in_turn (ends_of old) d) had)

  -- the register is restored
  restores : (c d : CellsOf Place) → Tracks r s InSave c d → Tracks r s InBoth c (moved d r (d s))
  restores c d had = record {
    fits = λ e. absurd cc;
    others = λ q n m. moved_other d r q (d s) (λ e. n (sym e)) ∙ had.others q n m;
    borrowed = λ differ. (moved_here d r r (d s) refl ∙ had.borrowed differ, moved_other d r s (d s) differ ∙ had.borrowed differ);
  }

  -- the register is restored once a move from the save slot to it is pushed
  pub restores_pushed : {T : Type 0} (c d : CellsOf Place) (old new : List (Place × Place × T)) (m : Place × Place × T) → m.0 ≡ s → m.1 ≡ r → new ≡ old
      ++ m ∷ [] → Tracks r s InSave c (in_turn (ends_of old) d) → Tracks r s InBoth c (in_turn (ends_of new) d)
  restores_pushed c d old new m from to e had =
      subst (λ x. Tracks r s InBoth c x) (sym (pushed old new m e d ∙ ap (λ p. moved (in_turn (ends_of old) d) m.1 (in_turn (ends_of old) d p)) from
      ∙ ap (λ p. moved (in_turn (ends_of old) d) p (in_turn (ends_of old) d s)) to))
      (restores c (in_turn (ends_of old) d) had)

  -- the register is filled with what passes through it
  fills : (h : Held) (c d : CellsOf Place) (v : Place) → CanPass h → Tracks r s h c d → Tracks r s h c (moved d r v)
  fills Free c d v can had = record {
    fits = had.fits;
    others = λ q n m. moved_other d r q v (λ e. n (sym e)) ∙ had.others q n m;
    borrowed = λ differ. tt;
  }
  fills InSave c d v can had = record {
    fits = had.fits;
    others = λ q n m. moved_other d r q v (λ e. n (sym e)) ∙ had.others q n m;
    borrowed = λ differ. moved_other d r s v differ ∙ had.borrowed differ;
  }
  fills InRegister c d v can had = absurd can
  fills InBoth c d v can had = absurd can

  stands_along : (h : Held) (A B C D : Type 0) → (A → C) → (B → D) → stands_where h A B → stands_where h C D
  stands_along Free A B C D f g x = tt
  stands_along InRegister A B C D f g x = f x
  stands_along InBoth A B C D f g x = (f x.0, g x.1)
  stands_along InSave A B C D f g x = g x

  -- a move to a place that is neither
  copies_other : (h : Held) (c d : CellsOf Place) (a v w : Place) → a ≢ r → a ≢ s → v ≡ w → Tracks r s h c d → Tracks r s h (moved c a w) (moved d a v)
  copies_other h c d a v w nr ns e had =
      let here : moved d a v r ≡ d r = moved_other d a r v nr in
      let there : moved d a v s ≡ d s = moved_other d a s v ns in
      let was : moved c a w r ≡ c r = moved_other c a r w nr in
      record {
        fits = had.fits;
        others = λ q n m. ⊎_elim
            (λ same. moved_here d a q v same ∙ e ∙ sym (moved_here c a q w same))
            (λ differs. moved_other d a q v differs ∙ had.others q n m ∙ sym (moved_other c a q w differs))
            (cases_place a q);
        borrowed = λ differ. stands_along h (d r ≡ c r) (d s ≡ c r) (moved d a v r ≡ moved c a w r) (moved d a v s ≡ moved c a w r)
            (λ x. here ∙ x ∙ sym was) (λ x. there ∙ x ∙ sym was) (had.borrowed differ);
      }

  -- a move into the register
  copies_into : (h : Held) (c d : CellsOf Place) (v w : Place) → v ≡ w → Tracks r s h c d → Tracks r s InRegister (moved c r w) (moved d r v)
  copies_into h c d v w e had = record {
    fits = λ f. absurd cc;
    others = λ q n m. moved_other d r q v (λ f. n (sym f)) ∙ had.others q n m ∙ sym (moved_other c r q w (λ f. n (sym f)));
    borrowed = λ differ. moved_here d r r v refl ∙ e ∙ sym (moved_here c r r w refl);
  }

  -- a move by way of the register
  pub passes : {T : Type 0} (h : Held) (c d : CellsOf Place) (m : Place × Place × T) (one two three : List (Place × Place × T)) → CanPass h → (m.0 ≢ r)
      × (m.0 ≢ s) → (m.1 ≢ r) × (m.1 ≢ s) → two ≡ one ++ (m.0, r, m.2) ∷ [] → three ≡ two ++ (r, m.1, m.2) ∷ [] → Tracks r s h c (in_turn (ends_of one) d) →
      Tracks r s h (moved c m.1 (c m.0)) (in_turn (ends_of three) d)
  passes {T} h c d m one two three can from to e f had =
      let x : Place × Place × T = (m.0, r, m.2) in
      let y : Place × Place × T = (r, m.1, m.2) in
      let v : Place = in_turn (ends_of one) d m.0 in
      let filled : Tracks r s h c (in_turn (ends_of two) d) =
      subst (λ z. Tracks r s h c z) (sym (pushed one two x e d)) (fills h c (in_turn (ends_of one) d) v can had) in
      let holds : in_turn (ends_of two) d r ≡ c m.0 = ap (λ z. z r) (pushed one two x e d) ∙ moved_here (in_turn (ends_of one) d) r r v refl
      ∙ had.others m.0 from.0 from.1 in
      subst (λ z. Tracks r s h (moved c m.1 (c m.0)) z) (sym (pushed two three y f d))
      (copies_other h c (in_turn (ends_of two) d) m.1 (in_turn (ends_of two) d r) (c m.0) to.0 to.1 holds filled)

  -- what a place that is no save slot holds, where the register holds its own
  reads : (h : Held) (c d : CellsOf Place) (a : Place) → a ≢ s → (a ≡ r → h ≢ InSave) → Tracks r s h c d → d a ≡ c a
  reads Free c d a n ready had = had.others a (λ e. n (e ∙ had.fits refl)) n
  reads InRegister c d a n ready had = ⊎_elim (λ e. ap d e ∙ had.borrowed (λ f. n (e ∙ f)) ∙ ap c (sym e)) (λ m. had.others a m n) (cases_place a r)
  reads InBoth c d a n ready had = ⊎_elim (λ e. ap d e ∙ (had.borrowed (λ f. n (e ∙ f))).0 ∙ ap c (sym e)) (λ m. had.others a m n) (cases_place a r)
  reads InSave c d a n ready had = had.others a (λ e. ready e refl) n

  -- a move that names no save slot and isn't into the register is tracked once it is pushed
  pub copies_pushed : {T : Type 0} (h : Held) (c d : CellsOf Place) (m : Place × Place × T) (old new : List (Place × Place × T)) → (m.0 ≢ s) × (m.1 ≢ s) →
      (m.0 ≡ r → h ≢ InSave) → m.1 ≢ r → new ≡ old ++ m ∷ [] → Tracks r s h c (in_turn (ends_of old) d) →
      Tracks r s h (moved c m.1 (c m.0)) (in_turn (ends_of new) d)
  copies_pushed h c d m old new unnamed ready other e had =
      let x = in_turn (ends_of old) d in
      subst (λ z. Tracks r s h (moved c m.1 (c m.0)) z) (sym (pushed old new m e d))
      (copies_other h c x m.1 (x m.0) (c m.0) other unnamed.1 (reads h c x m.0 unnamed.0 ready had) had)

  -- a move into the register is tracked too, and the register holds its own from then on
  pub copies_pushed_into : {T : Type 0} (h : Held) (c d : CellsOf Place) (m : Place × Place × T) (old new : List (Place × Place × T)) → (m.0 ≢ s) × (m.1 ≢ s) →
      (m.0 ≡ r → h ≢ InSave) → m.1 ≡ r → new ≡ old ++ m ∷ [] → Tracks r s h c (in_turn (ends_of old) d) →
      Tracks r s InRegister (moved c m.1 (c m.0)) (in_turn (ends_of new) d)
  copies_pushed_into h c d m old new unnamed ready into e had =
      let x = in_turn (ends_of old) d in
      subst (λ z. Tracks r s InRegister (moved c m.1 (c m.0)) z) (sym (pushed old new m e d))
      (subst (λ p. Tracks r s InRegister (moved c p (c m.0)) (moved x p (x m.0))) (sym into)
      (copies_into h c x (x m.0) (c m.0) (reads h c x m.0 unnamed.0 ready had) had))

  -- the first moves are made
  abbrev pub Follows : {T : Type 0} → Held → List (Place × Place × T) → List (Place × Place × T) → ℕ → Type 0
  Follows h ms out i = (d : CellsOf Place) → Tracks r s h (in_turn (take i (ends_of ms)) d) (in_turn (ends_of out) d)

  -- none is made yet
  pub follows_none : {T : Type 0} (h : Held) (ms out : List (Place × Place × T)) → IsUnused h → FreeNeedsNoSave h r s → out ≡ [] → Follows h ms out 0
  follows_none Free ms out first fits e d = record { fits = fits; others = λ q n m. ap (λ xs. in_turn (ends_of xs) d q) e; borrowed = λ differ. tt }
  follows_none InRegister ms out first fits e d = record {
    fits = fits;
    others = λ q n m. ap (λ xs. in_turn (ends_of xs) d q) e;
    borrowed = λ differ. ap (λ xs. in_turn (ends_of xs) d r) e;
  }
  follows_none InBoth ms out first fits e d = absurd first
  follows_none InSave ms out first fits e d = absurd first

  -- if what is pushed for one more move tracks it, the moves up to it are made
  pub follows_more : {T : Type 0} (h after : Held) (ms old new : List (Place × Place × T)) (i : ℕ) (m : Place × Place × T) → i < length (ends_of ms) →
      m.0 ≡ from_at (ends_of ms) i → m.1 ≡ to_at (ends_of ms) i → Follows h ms old i →
      ((c d : CellsOf Place) → Tracks r s h c (in_turn (ends_of old) d) → Tracks r s after (moved c m.1 (c m.0)) (in_turn (ends_of new) d)) →
      Follows after ms new (i + 1)
  follows_more h after ms old new i m low from to had step d =
      let c = in_turn (take i (ends_of ms)) d in
      let e : in_turn (take (i + 1) (ends_of ms)) d ≡ moved c (to_at (ends_of ms) i) (c (from_at (ends_of ms) i)) =
      ap (λ x. in_turn x d) (take_more (ends_of ms) i no_move low) ∙ in_turn-end (take i (ends_of ms)) (get_or (ends_of ms) i no_move) d in
      subst (λ x. Tracks r s after x (in_turn (ends_of new) d))
      (sym (e ∙ ap (λ p. moved c p (c (from_at (ends_of ms) i))) (sym to) ∙ ap (λ p. moved c m.1 (c p)) (sym from))) (step c d (had d))

  -- once all moves are made and the register is restored, each place but the save slot holds what the given moves say
  pub follows_all : {T : Type 0} (h after : Held) (ms old new : List (Place × Place × T)) (i : ℕ) → length (ends_of ms) ≤ i → Follows h ms old i →
      ((c d : CellsOf Place) → Tracks r s h c (in_turn (ends_of old) d) → Tracks r s after c (in_turn (ends_of new) d)) → after ≢ InSave →
      (d : CellsOf Place) (q : Place) → q ≢ s → in_turn (ends_of new) d q ≡ in_turn (ends_of ms) d q
  follows_all h after ms old new i end had step restored d q n =
      reads after (in_turn (take i (ends_of ms)) d) (in_turn (ends_of new) d) q n (λ e f. restored f) (step (in_turn (take i (ends_of ms)) d) d (had d)) ∙
      ap (λ x. in_turn x d q) (take_all i (ends_of ms) end)

-- what one more move adds
pub added_one : {T : Type 0} (x : Place × Place × T) (old new : List (Place × Place × T)) (m : Place × Place × T) → new ≡ old ++ m ∷ [] → Contains new x →
    Contains old x ⊎ (x ≡ m)
added_one x old new m e h = ⊎_elim (λ l. inl l) (λ r. inr (sym r)) (Contains-push_cases old m x (subst (λ xs. Contains xs x) e h))

-- where a move that saves the register or restores it is pushed, each move is an old one, or saves or restores the register
pub added_aside : {T : Type 0} (r s : Place) (x : Place × Place × T) (old new : List (Place × Place × T)) (m : Place × Place × T) → SavesOrRestores r s m →
    new ≡ old
    ++ m ∷ [] → Contains new x → Contains old x ⊎ SavesOrRestores r s x
added_aside r s x old new m aside e h = ⊎_elim (λ l. inl l) (λ is. inr (subst (λ y. SavesOrRestores r s y) (sym is) aside)) (added_one x old new m e h)

-- where the two moves that make a move by way of the register are pushed, each move is an old one, saves or restores the register, or is one of them
pub added_by_way : {T : Type 0} (r s : Place) (x m : Place × Place × T) (old one two three : List (Place × Place × T)) →
    (Contains one x → Contains old x ⊎ SavesOrRestores r s x) → two ≡ one ++ (m.0, r, m.2) ∷ [] → three ≡ two ++ (r, m.1, m.2) ∷ [] → Contains three x →
    (Contains old x ⊎ SavesOrRestores r s x) ⊎ GoesThrough r m x
added_by_way {T} r s x m old one two three was e f h =
    let y : Place × Place × T = (m.0, r, m.2) in
    let z : Place × Place × T = (r, m.1, m.2) in
    ⊎_elim
    (λ l. ⊎_elim (λ k. inl (was k)) (λ is. inr (inl (ap (λ (v : Place × Place × T). v.0) is, ap (λ (v : Place × Place × T). v.1) is)))
    (added_one x one two y e l))
    (λ is. inr (inr (ap (λ (v : Place × Place × T). v.0) is, ap (λ (v : Place × Place × T). v.1) is, ap (λ (v : Place × Place × T). v.2) is)))
    (added_one x two three z f h)

-- what is made of the moves, one step after another
module _ {T : Type 0} (stack : Place → Bool → Type 0) (r s : Place) (no_stack : stack r true → ⊥) (real : (r ≢ NoPlace) × (s ≢ NoPlace))
    (ms : List (Place × Place × T)) where
  made_aside : (x : Place × Place × T) → SavesOrRestores r s x → IsMade stack r s ms x
  made_aside x (inl h) = record {
    apart = inl (inr (λ a. no_stack (subst (λ p. stack p true) h.0 a)));
    between = ((λ e. real.0 (sym h.0 ∙ e)), (λ e. real.1 (sym h.1 ∙ e)));
    source = inl (inl h.0);
    target = inl (inr h.1);
  }
  made_aside x (inr h) = record {
    apart = inr (inr (λ a. no_stack (subst (λ p. stack p true) h.1 a)));
    between = ((λ e. real.1 (sym h.0 ∙ e)), (λ e. real.0 (sym h.1 ∙ e)));
    source = inl (inr h.0);
    target = inl (inl h.1);
  }

  made_by_way : (m x : Place × Place × T) → Contains ms m → (m.0 ≢ NoPlace) × (m.1 ≢ NoPlace) → GoesThrough r m x → IsMade stack r s ms x
  made_by_way m x inside ends (inl h) = record {
    apart = inr (inr (λ a. no_stack (subst (λ p. stack p true) h.1 a)));
    between = ((λ e. ends.0 (sym h.0 ∙ e)), (λ e. real.0 (sym h.1 ∙ e)));
    source = inr (m, inside, h.0);
    target = inl (inl h.1);
  }
  made_by_way m x inside ends (inr h) = record {
    apart = inl (inr (λ a. no_stack (subst (λ p. stack p true) h.0 a)));
    between = ((λ e. real.0 (sym h.0 ∙ e)), (λ e. ends.1 (sym h.1 ∙ e)));
    source = inl (inl h.0);
    target = inr (m, inside, h.1, h.2);
  }

  made_itself : (m x : Place × Place × T) → Contains ms m → (m.0 ≢ NoPlace) × (m.1 ≢ NoPlace) → stack m.0 false ⊎ stack m.1 false → x ≡ m →
      IsMade stack r s ms x
  made_itself m x inside ends apart e = subst (λ y. IsMade stack r s ms y) (sym e) (record {
    apart = ⊎_elim (λ a. inl (inl a)) (λ a. inr (inl a)) apart;
    between = ends;
    source = inr (m, inside, refl);
    target = inr (m, inside, refl, refl);
  })

  made_step : (passing : Bool) (m x : Place × Place × T) → Contains ms m → (m.0 ≢ NoPlace) × (m.1 ≢ NoPlace) →
      (passing ≡ false → stack m.0 false ⊎ stack m.1 false) → IsMadeFor r passing m x → IsMade stack r s ms x
  made_step true m x inside ends apart h = made_by_way m x inside ends h
  made_step false m x inside ends apart h = made_itself m x inside ends (apart refl) h

  -- moves that save or restore the register may be added to what is made for the moves
  pub made_last : (old new : List (Place × Place × T)) → All (IsMade stack r s ms) old →
      ((x : Place × Place × T) → Contains new x → Contains old x ⊎ SavesOrRestores r s x) → All (IsMade stack r s ms) new
  made_last old new had added k d low = ⊎_elim
      (λ l. All-contains (IsMade stack r s ms) old (get_or new k d) had l)
      (λ a. made_aside (get_or new k d) a)
      (added (get_or new k d) (Contains-get_or new k d low))

  -- what is made of one more of the moves may be added to what is made for the moves
  pub made_more : (passing : Bool) (m : Place × Place × T) (old new : List (Place × Place × T)) → Contains ms m → (m.0 ≢ NoPlace) × (m.1 ≢ NoPlace) →
      (passing ≡ false → stack m.0 false ⊎ stack m.1 false) → All (IsMade stack r s ms) old →
      ((x : Place × Place × T) → Contains new x → (Contains old x ⊎ SavesOrRestores r s x) ⊎ IsMadeFor r passing m x) → All (IsMade stack r s ms) new
  made_more passing m old new inside ends apart had added k d low = ⊎_elim
      (λ l. ⊎_elim
      (λ o. All-contains (IsMade stack r s ms) old (get_or new k d) had o)
      (λ a. made_aside (get_or new k d) a)
      l)
      (λ h. made_step passing m (get_or new k d) inside ends apart h)
      (added (get_or new k d) (Contains-get_or new k d low))
