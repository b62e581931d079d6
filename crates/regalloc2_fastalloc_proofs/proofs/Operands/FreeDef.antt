-- A definition is placed: its vreg has no location before it, and is moved to where it is expected and to its slot.
use Rattle.std.proofs.Common.{ℕ, ◌≡◌, ◌<◌, Bool, true, false, refl, sym, ap, ◌∙◌, subst, inl, inr, ⊎_elim}
use Rattle.std.specs.Prelude.{Option, None, Some}
use Rattle.std.proofs.lemmas.Bool.{cases_Bool, cases_eq}
use Rattle.regalloc2_names.specs.Register.{VirtualRegister}
use Rattle.regalloc2_names.specs.Place.{Place, NoPlace, InSlot}
use Rattle.regalloc2_carry.specs.OperandsPlaced.{What, Progress, Placed, Once, Places, PlacesDefinition}
use Rattle.regalloc2_carry.proofs.RecordSteps.{step_def}
use Rattle.regalloc2_fastalloc_state.specs.StateParts.{SpillSlotsValue, slot_name, units_of, IsSlotOrNone, SetsAlloc}
use Rattle.regalloc2_fastalloc_proofs.specs.InstSteps.{StateValue}
use Rattle.regalloc2_fastalloc_proofs.specs.Safety.{IsWhole}
use Rattle.regalloc2_fastalloc_proofs.proofs.Safety.StepsKeepState.{place_in, away_holds, away_stands}
use Rattle.regalloc2_fastalloc_proofs.proofs.Operands.RecordOverState.{opt, location_at, slots_at, Located}

-- the tables stay whole when a vreg leaves
pub leave_whole : (old new : StateValue) (v : VirtualRegister) → SetsAlloc old.places new.places v NoPlace → new.slots ≡ old.slots → IsWhole old → IsWhole new
leave_whole old new v z slots w = record {
  holds = away_holds old new v NoPlace (λ q. refl) z w;
  stands_in = away_stands old new v NoPlace (λ q. refl) z w;
  own_slot = λ x k h. elim (cases_eq x v.number) [
    | inl e ↦ (let y : NoPlace ≡ InSlot k = sym z.here ∙ ap (place_in new) (sym e) ∙ h in absurd cc)
    | inr ne ↦ (ap (λ (s : SpillSlotsValue). slot_name s x) slots ∙ w.own_slot x k (sym (z.others x ne) ∙ h))
  ];
  below = λ x. subst (λ (s : SpillSlotsValue). IsSlotOrNone s.count (slot_name s x)) (sym slots) (w.below x);
  own = λ x y k h g. w.own x y k (ap (λ (s : SpillSlotsValue). slot_name s x) (sym slots) ∙ h) (ap (λ (s : SpillSlotsValue). slot_name s y) (sym slots) ∙ g);
  units = λ c. subst (λ (s : SpillSlotsValue). 0 < units_of s c) (sym slots) (w.units c);
}

-- the definition k, which has claimed its place, is placed
pub record PlacesDef (counts : ℕ → Type 0) (what : ℕ → What) (far : Progress) (done2 out2 : ℕ → Bool) (Y : Place → ℕ → Bool) (k : ℕ) : Type 0 where
  pub makes : PlacesDefinition what far.here far.out out2 far.made_at Y k
  pub places : Places far.done done2 k
  pub once : Once counts what
  pub claims : far.claimed k ≡ true
  pub is_def : (what k).is_def ≡ true

-- the record of the operands, once the definition is placed
pub located_after_definition : (counts : ℕ → Type 0) (what : ℕ → What) (far : Progress) (done2 out2 : ℕ → Bool) (Y : Place → ℕ → Bool) (old new : StateValue) (k : ℕ)
    (v : VirtualRegister)
    → PlacesDef counts what far done2 out2 Y k → ((j : ℕ) → far.claimed j ≡ true → counts j)
    → (what k).number ≡ v.number → SetsAlloc old.places new.places v NoPlace → new.slots ≡ old.slots
    → Located what far old → Located what (record far { done = done2; out = out2; made_at = Y }) new
located_after_definition counts what far done2 out2 Y old new k v d within same z slots st = record {
  whole = leave_whole old new v z slots st.whole;
  placed = subst (λ (s : SpillSlotsValue). Placed what (record far { done = done2; out = out2; made_at = Y }) (location_at new) (λ x. opt (slot_name s x)))
      (sym slots)
      (step_def what far done2 out2 Y (location_at old) (location_at new) (slots_at old) k d.claims d.is_def
      (λ j f us e. d.once.unread k j (within k d.claims) (within j (st.placed.claims j f)) d.is_def us e)
      d.places d.makes (record { now = ap opt (ap (place_in new) same ∙ z.here); same = λ x n. ap opt (z.others x (λ e. n (e ∙ sym same))) }) st.placed);
  below = λ j q cj e. subst (λ (s : SpillSlotsValue). q < s.count) (sym slots) (st.below j q cj e);
  unclobbered = st.unclobbered;
}

-- no definition is placed at the location of the vreg that is defined next
pub no_def_at_location_of_next : (counts : ℕ → Type 0) (what : ℕ → What) (far : Progress)
    (T S : ℕ → Option Place) (k : ℕ) (p : Place) (u : ℕ)
    → Once counts what → ((j : ℕ) → far.claimed j ≡ true → counts j) → far.claimed k ≡ true → (what k).is_def ≡ true
    → Placed what far T S → T (what k).number ≡ Some p → far.made_at p u ≡ false
no_def_at_location_of_next counts what far T S k p u once within ck def s alloc_of =
    let v : ℕ = (what k).number in
    let l : far.lived v ≡ true = ⊎_elim
    (λ (a : far.lived v ≡ true). a)
    (λ (a : far.lived v ≡ false). let w = s.newly v p a alloc_of in
    absurd (once.unread k w.0 (within k ck) (within w.0 (s.claims w.0 w.1)) def w.2 (sym w.3)))
    (cases_Bool (far.lived v)) in
    ⊎_elim
    (λ (a : far.made_at p u ≡ true). let n = s.makes p u a in
    let b : v ≡ (what n.0).number = s.def_alone n.0 v (s.claims n.0 n.1) n.2 l (alloc_of ∙ ap Some (sym n.4)) in
    let c : T v ≡ None = ap T b ∙ s.gone (what n.0).number (s.outs n.0 n.1 n.2) in absurd cc)
    (λ (a : far.made_at p u ≡ false). a)
    (cases_Bool (far.made_at p u))
