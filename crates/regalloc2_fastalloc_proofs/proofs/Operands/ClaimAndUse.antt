-- An operand claims its place, and a use is placed there.
use Rattle.std.proofs.Common.{ℕ, ◌≡◌, ◌≢◌, ◌<◌, Bool, true, false, refl, sym, ap, ◌∙◌, subst, inl, inr, ◌⊎◌, ⊎_elim}
use Rattle.std.specs.Prelude.{Option, Some, not, ◌||◌}
use Rattle.std.proofs.lemmas.Bool.{cases_Bool, cases_eq}
use Rattle.regalloc2_names.specs.Register.{Register}
use Rattle.regalloc2_names.specs.Place.{Place, NoPlace, InRegister, InSlot}
use Rattle.regalloc2_carry.specs.OperandsPlaced.{What, uses, Progress, Placed, Once, Clear, Puts, Places}
use Rattle.regalloc2_carry.proofs.BoundaryToBoundary.{Covers}
use Rattle.regalloc2_carry.proofs.RecordSteps.{step_claim, step_use}
use Rattle.regalloc2_fastalloc_proofs.specs.InstSteps.{StateValue}
use Rattle.regalloc2_fastalloc_proofs.proofs.Safety.StepsKeepState.{place_in, slot_in, slot_no_register}
use Rattle.regalloc2_fastalloc_proofs.proofs.Operands.RecordOverState.{opt, opt_some, opt_from, location_at, slots_at, slot_below, Located}

-- the positions at which an operand holds its register cover its own
pub covers_at : (number : ℕ) (d l : Bool) → Covers (record { number = number; is_def = d; is_late = l }) (not d || not l) (d || l)
covers_at number true true = record { early_use = λ e. absurd cc; early_def = λ e. absurd cc; late_def = λ e. refl; late_use = λ e. refl }
covers_at number true false = record { early_use = λ e. refl; early_def = λ e. refl; late_def = λ e. refl; late_use = λ e. refl }
covers_at number false true = record { early_use = λ e. refl; early_def = λ e. refl; late_def = λ e. refl; late_use = λ e. refl }
covers_at number false false = record { early_use = λ e. refl; early_def = λ e. refl; late_def = λ e. absurd cc; late_use = λ e. absurd cc }

-- both positions together cover the positions of every operand
pub covers_both : (w : What) → Covers w true true
covers_both w = record { early_use = λ e. refl; early_def = λ e. refl; late_def = λ e. refl; late_use = λ e. refl }

-- the slot of an operand's vreg is its own: any operand that claims it is an operand of that vreg
pub clear_slot : (counts : ℕ → Type 0) (what : ℕ → What) (far : Progress)
    (T S : ℕ → Option Place) (k : ℕ) (p : Place)
    → Placed what far T S → Once counts what → ((j : ℕ) → far.claimed j ≡ true → counts j) → counts k
    → S (what k).number ≡ Some p → Clear what far.here far.claimed k p
clear_slot counts what far T S k p s once within ck slot i c e =
    let same : (what k).number ≡ (what i).number = s.slot_own i (what k).number c (slot ∙ ap Some (sym e)) in
    ⊎_elim
    (λ (dk : (what k).is_def ≡ true). ⊎_elim
    (λ (di : (what i).is_def ≡ true). inl (once.one i k (within i c) ck di dk (sym same)))
    (λ (ui : (what i).is_def ≡ false). absurd (once.unread k i ck (within i c) dk ui same))
    (cases_Bool (what i).is_def))
    (λ (uk : (what k).is_def ≡ false). ⊎_elim
    (λ (di : (what i).is_def ≡ true). absurd (once.unread i k (within i c) ck di uk (sym same)))
    (λ (ui : (what i).is_def ≡ false). inr (uses ui uk (sym same)))
    (cases_Bool (what i).is_def))
    (cases_Bool (what k).is_def)

-- claimed places stay below the count of slots
puts_below : (here there : ℕ → Place) (claimed claimed2 : ℕ → Bool) (k : ℕ) (r : Place) (count : ℕ) → Puts here there claimed claimed2 k r →
    ((m : ℕ) → r ≡ InSlot m → m < count) →
    ((j m : ℕ) → claimed j ≡ true → here j ≡ InSlot m → m < count) → (j m : ℕ) → claimed2 j ≡ true → there j ≡ InSlot m → m < count
puts_below here there claimed claimed2 k r count u lt below j m c e = elim (cases_eq j k) [
  | inl i ↦ lt m (sym u.at_k ∙ ap there (sym i) ∙ e)
  | inr n ↦ elim (u.grows j c) [ inl i ↦ absurd (n i) | inr d ↦ below j m d (sym (u.at_j j n) ∙ e) ]
]

-- a register from which all other vregs were evicted
pub claim_register : (what : ℕ → What) (far : Progress) (there : ℕ → Place) (claimed2 : ℕ → Bool)
    (t : StateValue) (k : ℕ) (r : Register)
    → Puts far.here there far.claimed claimed2 k (InRegister r) → Clear what far.here far.claimed k (InRegister r) →
    ((x : ℕ) → place_in t x ≡ InRegister r → x ≡ (what k).number)
    → (((what k).is_def ≡ true) ⊎ ((what k).is_late ≡ true) → far.clobbered (InRegister r) ≡ false)
    → Located what far t → Located what (record far { here = there; claimed = claimed2 }) t
claim_register what far there claimed2 t k r u clear only_vreg unclobbered st = record {
  whole = st.whole;
  placed = step_claim what far there claimed2 (location_at t) (slots_at t) k (InRegister r) u clear
      (record {
        for_def = λ d w l e. only_vreg w (opt_from (place_in t w) (InRegister r) e);
        for_use = λ d w e. only_vreg w (opt_from (place_in t w) (InRegister r) e);
        of_slots = λ w e. absurd (slot_no_register t.slots.count (slot_in t w) r (st.whole.below w) (opt_from (slot_in t w) (InRegister r) e));
      })
      unclobbered (λ z. cc) st.placed;
  below = puts_below far.here there far.claimed claimed2 k (InRegister r) t.slots.count u (λ m e. absurd cc) st.below;
  unclobbered = st.unclobbered;
}

-- the slot of the operand's vreg
pub claim_slot : (counts : ℕ → Type 0) (what : ℕ → What) (far : Progress) (there : ℕ → Place) (claimed2 : ℕ → Bool) (t : StateValue) (k m : ℕ)
    → Puts far.here there far.claimed claimed2 k (InSlot m) → Once counts what → ((j : ℕ) → far.claimed j ≡ true → counts j) → counts k →
    slot_in t (what k).number ≡ InSlot m
    → Located what far t → Located what (record far { here = there; claimed = claimed2 }) t
claim_slot counts what far there claimed2 t k m u once within ck slot st =
    let own : (w : ℕ) → slot_in t w ≡ InSlot m → w ≡ (what k).number = λ w e. st.whole.own w (what k).number m e slot in
    record {
      whole = st.whole;
      placed = step_claim what far there claimed2 (location_at t) (slots_at t) k (InSlot m) u
          (clear_slot counts what far (location_at t) (slots_at t) k (InSlot m) st.placed once within ck (ap opt slot))
          (record {
            for_def = λ d w l e. own w (st.whole.own_slot w m (opt_from (place_in t w) (InSlot m) e));
            for_use = λ d w e. own w (st.whole.own_slot w m (opt_from (place_in t w) (InSlot m) e));
            of_slots = λ w e. own w (opt_from (slot_in t w) (InSlot m) e);
          })
          (λ h. st.unclobbered m) (λ z. cc) st.placed;
      below = puts_below far.here there far.claimed claimed2 k (InSlot m) t.slots.count u
          (λ j e. let same : m ≡ j = cc in subst (λ x. x < t.slots.count) same
          (slot_below t.slots.count (slot_in t (what k).number) m (st.whole.below (what k).number) slot)) st.below;
      unclobbered = st.unclobbered;
    }

-- the use k, which has claimed its place, is placed
pub record PlacesUse (what : ℕ → What) (far : Progress) (done2 : ℕ → Bool) (k : ℕ) : Type 0 where
  pub places : Places far.done done2 k
  pub claims : far.claimed k ≡ true
  pub is_use : (what k).is_def ≡ false

-- a use is placed, whose vreg has a location
pub use_stays : (what : ℕ → What) (far : Progress) (done2 : ℕ → Bool) (t : StateValue) (k : ℕ)
    → PlacesUse what far done2 k → place_in t (what k).number ≢ NoPlace
    → Located what far t → Located what (record far { done = done2 }) t
use_stays what far done2 t k u there st = record {
  whole = st.whole;
  placed = step_use what far done2 (location_at t) (slots_at t) k (place_in t (what k).number) u.claims u.is_use
      (opt_some (place_in t (what k).number) there) u.places st.placed;
  below = st.below;
  unclobbered = st.unclobbered;
}
