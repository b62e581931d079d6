-- Lemmas on a scratch place that is put wherever a move names none.
use Rattle.std.proofs.Common.{◌≡◌, ◌≢◌, suc, ◌<◌, List, [], ◌∷◌, length, map, get_or, refl, sym, ap, ◌∙◌, subst, ⊎_elim, arith}
use Rattle.std.proofs.lemmas.List.{get_or-map, length-map}
use Rattle.regalloc2_names.specs.Place.{Place, NoPlace, InRegister, InSlot}
use Rattle.regalloc2_parts.specs.AtOnce.{ends_of, CellsOf, moved, in_turn, WritesNoneFirst}
use Rattle.regalloc2_parts.specs.Resolved.{place_or, filled, IsUnnamed, AreBetweenPlaces}
use Rattle.regalloc2_parts.proofs.Places.{cases_place, moved_here, moved_other}

-- a place that is there is kept by the choice between it and the scratch place
pub or_some : (s p : Place) → p ≢ NoPlace → place_or s p ≡ p
or_some s NoPlace n = absurd (n refl)
or_some s (InRegister r) n = refl
or_some s (InSlot k) n = refl

-- where no place is named the scratch place is chosen
pub or_none : (s p : Place) → p ≡ NoPlace → place_or s p ≡ s
or_none s p e = ap (place_or s) e

or_real : (s p : Place) → s ≢ NoPlace → place_or s p ≢ NoPlace
or_real s NoPlace n e = n e
or_real s (InRegister r) n e = absurd cc
or_real s (InSlot k) n e = absurd cc

-- the cells differ only at the scratch place and at `none`
abbrev Agree : {X : Type 0} → Place → CellsOf X → CellsOf X → Type 0
Agree s c d = (p : Place) → p ≢ s → p ≢ NoPlace → d p ≡ c p

agree_moved : {X : Type 0} (s to : Place) (c d : CellsOf X) (x y : X) → to ≢ s → Agree s c d → y ≡ x → Agree s (moved c to x) (moved d (place_or s to) y)
agree_moved s to c d x y other had e p not_s real = ⊎_elim
    (λ none. moved_other d (place_or s to) p y (λ f. not_s (sym f ∙ or_none s to none)) ∙ had p not_s real
    ∙ sym (moved_other c to p x (λ f. real (sym f ∙ none))))
    (λ some. ⊎_elim
    (λ here. moved_here d (place_or s to) p y (or_some s to some ∙ here) ∙ e ∙ sym (moved_here c to p x here))
    (λ there. moved_other d (place_or s to) p y (λ f. there (sym (or_some s to some) ∙ f)) ∙ had p not_s real ∙ sym (moved_other c to p x there))
    (cases_place to p))
    (cases_place to NoPlace)

module _ {T X : Type 0} (s : Place) (fresh : s ≢ NoPlace) where
  -- once `none` was written
  fills_after : (ms : List (Place × Place × T)) (c d : CellsOf X) → IsUnnamed s ms → Agree s c d → d s ≡ c NoPlace → (q : Place) → q ≢ s → q ≢ NoPlace →
      in_turn (ends_of (map (filled s) ms)) d q ≡ in_turn (ends_of ms) c q
  unfolding in_turn
  fills_after [] c d free had aside q n real = had q n real
  fills_after (m ∷ ms) c d free had aside q n real =
      let here : (m.0 ≢ s) × (m.1 ≢ s) = free 0 m (omega arith) in
      let read : d (place_or s m.0) ≡ c m.0 = ⊎_elim
      (λ none. ap d (or_none s m.0 none) ∙ aside ∙ ap c (sym none))
      (λ some. ap d (or_some s m.0 some) ∙ had m.0 here.0 some)
      (cases_place m.0 NoPlace) in
      let kept : moved d (place_or s m.1) (d (place_or s m.0)) s ≡ moved c m.1 (c m.0) NoPlace = ⊎_elim
      (λ none. moved_here d (place_or s m.1) s (d (place_or s m.0)) (or_none s m.1 none) ∙ read ∙ sym (moved_here c m.1 NoPlace (c m.0) none))
      (λ some. moved_other d (place_or s m.1) s (d (place_or s m.0)) (λ f. here.1 (sym (or_some s m.1 some) ∙ f)) ∙ aside
      ∙ sym (moved_other c m.1 NoPlace (c m.0) some))
      (cases_place m.1 NoPlace) in
      fills_after ms (moved c m.1 (c m.0)) (moved d (place_or s m.1) (d (place_or s m.0))) (λ k x r. free (suc k) x (omega arith))
      (agree_moved s m.1 c d (c m.0) (d (place_or s m.0)) here.1 had read) kept q n real

  -- before that it is not read
  pub fills_same : (ms : List (Place × Place × T)) (c d : CellsOf X) → IsUnnamed s ms → WritesNoneFirst (ends_of ms) → Agree s c d → (q : Place) → q ≢ s →
      q ≢ NoPlace → in_turn (ends_of (map (filled s) ms)) d q ≡ in_turn (ends_of ms) c q
  unfolding in_turn WritesNoneFirst
  fills_same [] c d free first had q n real = had q n real
  fills_same (m ∷ ms) c d free first had q n real =
      let here : (m.0 ≢ s) × (m.1 ≢ s) = free 0 m (omega arith) in
      let read : d (place_or s m.0) ≡ c m.0 = ap d (or_some s m.0 first.0) ∙ had m.0 here.0 first.0 in
      let later : Agree s (moved c m.1 (c m.0)) (moved d (place_or s m.1) (d (place_or s m.0))) = agree_moved s m.1 c d (c m.0) (d (place_or s m.0)) here.1 had
      read in
      ⊎_elim
      (λ none. fills_after ms (moved c m.1 (c m.0)) (moved d (place_or s m.1) (d (place_or s m.0))) (λ k x r. free (suc k) x (omega arith)) later
      (moved_here d (place_or s m.1) s (d (place_or s m.0)) (or_none s m.1 none) ∙ read ∙ sym (moved_here c m.1 NoPlace (c m.0) none)) q n real)
      (λ some. fills_same ms (moved c m.1 (c m.0)) (moved d (place_or s m.1) (d (place_or s m.0))) (λ k x r. free (suc k) x (omega arith)) (first.1 some) later
      q n real)
      (cases_place m.1 NoPlace)

-- each filled move is from a place to a place
pub fills_real : {T : Type 0} (s : Place) → s ≢ NoPlace → (ms : List (Place × Place × T)) → AreBetweenPlaces (map (filled s) ms)
fills_real {T} s fresh ms k d r =
    let many : length (map (filled s) ms) ≡ length ms = length-map ms (filled s) in
    let low : k < length ms = omega arith in
    subst (λ (m : Place × Place × T). (m.0 ≢ NoPlace) × (m.1 ≢ NoPlace)) (sym (get_or-map (filled s) ms k d d low))
    (or_real s (get_or ms k d).0 fresh, or_real s (get_or ms k d).1 fresh)
