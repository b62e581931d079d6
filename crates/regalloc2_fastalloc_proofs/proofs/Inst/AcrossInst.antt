-- A vreg that had no location is in its use's place; the record at an instruction's start, and across the instruction.
use Rattle.std.proofs.Common.{ℕ, ◌≡◌, ◌≢◌, ◌+◌, ◌<◌, Bool, true, false, List, ◌∷◌, refl, arith, sym, ap, ◌∙◌, subst, inl, inr}
use Rattle.std.specs.Prelude.{is_some}
use Rattle.std.proofs.lemmas.Bool.{cases_eq}
use Rattle.regalloc2_names.specs.declared.RegClass.{RegClass}
use Rattle.regalloc2_names.specs.declared.sets.PRegSet.{PRegSet}
use Rattle.regalloc2_names.specs.Register.{Register, VirtualRegister}
use Rattle.regalloc2_names.specs.Operand.{OperandValue}
use Rattle.regalloc2_names.specs.Place.{Place, NoPlace, InRegister, InSlot, before, after}
use Rattle.regalloc2_carry.specs.Listing.Item.{Exec}
use Rattle.regalloc2_carry.specs.Carry.{is_clobbered}
use Rattle.regalloc2_carry.specs.BlockByPoints.{AllFrom, at_point, walked, after_part, listed}
use Rattle.regalloc2_carry.specs.Instruction.{Claims, Knows}
use Rattle.regalloc2_carry.specs.OperandsPlaced.{What, what_of, Need, Pending, Progress, Placed, Once, Counts, AreAllPlaced, at_begin}
use Rattle.regalloc2_carry.proofs.Points.{all_from-less}
use Rattle.regalloc2_carry.proofs.MoveInFront.{after_part-clean}
use Rattle.regalloc2_carry.proofs.RecordSteps.{step_new}
use Rattle.regalloc2_carry.proofs.InstCarries.{cross_all}
use Rattle.regalloc2_carry.proofs.BoundaryToBoundary.{begin_all}
use Rattle.regalloc2_fastalloc_proofs.proofs.Operands.ClaimAndUse.{PlacesUse}
use Rattle.regalloc2_fastalloc_state.specs.StateParts.{SpillSlotsValue, slot_name, units_of, IsSlotOrNone, SetsAlloc}
use Rattle.regalloc2_fastalloc_proofs.specs.InstSteps.{StateValue}
use Rattle.regalloc2_fastalloc_proofs.specs.Safety.{IsWhole}
use Rattle.regalloc2_fastalloc_proofs.proofs.Safety.StepsKeepState.{place_in, slot_in, away_holds, away_stands, arrive_holds, arrive_stands, slot_no_register}
use Rattle.regalloc2_fastalloc_proofs.proofs.Operands.RecordOverState.{opt, opt_some, opt_from, opt_real, location_at, slots_at, Located, OwesPlaces}
use Rattle.regalloc2_fastalloc_proofs.proofs.Operands.BlockTail.{BlockTail}

-- the slots stay
module _ (old new : StateValue) (v : VirtualRegister) (nowhere : place_in old v.number ≡ NoPlace) (slots : new.slots ≡ old.slots) (w : IsWhole old) where
  slot_same : (x : ℕ) → slot_in new x ≡ slot_in old x
  slot_same x = ap (λ (s : SpillSlotsValue). slot_name s x) slots

  below_same : (x : ℕ) → IsSlotOrNone new.slots.count (slot_in new x)
  below_same x = subst (λ (s : SpillSlotsValue). IsSlotOrNone s.count (slot_name s x)) (sym slots) (w.below x)

  own_same : (x y k : ℕ) → slot_in new x ≡ InSlot k → slot_in new y ≡ InSlot k → x ≡ y
  own_same x y k h g = w.own x y k (sym (slot_same x) ∙ h) (sym (slot_same y) ∙ g)

  units_same : (c : RegClass) → 0 < units_of new.slots c
  units_same c = subst (λ (s : SpillSlotsValue). 0 < units_of s c) (sym slots) (w.units c)

  -- the vreg's location becomes a register that had no vreg
  pub arrive_register : (r : Register) → r.number < 64 → ((x : ℕ) → place_in old x ≡ InRegister r → ⊥) → SetsAlloc old.places new.places v (InRegister r) →
      IsWhole new
  arrive_register r lt empty z = record {
    holds = arrive_holds old new v r lt nowhere empty z w;
    stands_in = arrive_stands old new v r lt nowhere empty z w;
    own_slot = λ x k h. elim (cases_eq x v.number) [
      | inl e ↦ (let y : InRegister r ≡ InSlot k = sym z.here ∙ ap (place_in new) (sym e) ∙ h in absurd cc)
      | inr ne ↦ (slot_same x ∙ w.own_slot x k (sym (z.others x ne) ∙ h))
    ];
    below = below_same;
    own = own_same;
    units = units_same;
  }

  -- the vreg's location becomes its slot
  pub arrive_slot : (m : ℕ) → slot_in old v.number ≡ InSlot m → SetsAlloc old.places new.places v (InSlot m) → IsWhole new
  arrive_slot m slot z = record {
    holds = away_holds old new v (InSlot m) (λ q. refl) z w;
    stands_in = away_stands old new v (InSlot m) (λ q. refl) z w;
    own_slot = λ x k h. elim (cases_eq x v.number) [
      | inl e ↦ (slot_same x ∙ ap (slot_in old) e ∙ slot ∙ sym z.here ∙ ap (place_in new) (sym e) ∙ h)
      | inr ne ↦ (slot_same x ∙ w.own_slot x k (sym (z.others x ne) ∙ h))
    ];
    below = below_same;
    own = own_same;
    units = units_same;
  }

-- a use is placed, whose vreg had no location
pub use_arrives : (what : ℕ → What) (far : Progress) (done2 : ℕ → Bool) (old new : StateValue) (k : ℕ) (v : VirtualRegister)
    → PlacesUse what far done2 k → (what k).number ≡ v.number → far.here k ≢ NoPlace → place_in old v.number ≡ NoPlace
    → ((j : ℕ) → far.done j ≡ true → (what j).is_def ≡ true → (what j).number ≡ (what k).number → ⊥)
    → SetsAlloc old.places new.places v (far.here k) → new.slots ≡ old.slots → IsWhole new
    → Located what far old → Located what (record far { done = done2 }) new
use_arrives what far done2 old new k v u same real nowhere unmade z slots w st = record {
  whole = w;
  placed = subst (λ (s : SpillSlotsValue). Placed what (record far { done = done2 }) (location_at new) (λ x. opt (slot_name s x))) (sym slots)
      (step_new what far done2 (location_at old) (location_at new) (slots_at old) k u.claims u.is_use
      (ap opt (ap (place_in old) same ∙ nowhere)) unmade u.places
      (record {
        now = ap opt (ap (place_in new) same ∙ z.here) ∙ opt_some (far.here k) real;
        same = λ x n. ap opt (z.others x (λ e. n (e ∙ sym same)));
      }) st.placed);
  below = λ j m cj e. subst (λ (s : SpillSlotsValue). m < s.count) (sym slots) (st.below j m cj e);
  unclobbered = st.unclobbered;
}

-- the live vregs when an instruction begins: the vregs that have a location
abbrev pub lives_in : StateValue → ℕ → Bool
lives_in t x = is_some (location_at t x)

-- before any operand of an instruction is allocated, the record of its operands holds, and vregs with a location are
-- live
pub located_at_begin : (what : ℕ → What) (here : ℕ → Place) (t : StateValue) → IsWhole t →
    Located what (at_begin here (lives_in t)) t
located_at_begin what here t w = record {
  whole = w;
  placed = begin_all what here (lives_in t) (location_at t) (slots_at t) (λ x. refl);
  below = λ j k c e. absurd cc;
  unclobbered = λ k. refl;
}

module _ (tail : BlockTail) where
  open tail use {Known, insts, placesf, i, n, E}

  -- the listing from the next instruction on
  pub begin_owes : (t : StateValue) → AllFrom (before (i + 1)) (listed t.edits) →
      Claims Known (walked insts (at_point (listed t.edits)) placesf (i + 1) n) (Need (lives_in t) (λ x. false) (λ p x. false) (location_at t) (slots_at t)) E →
      OwesPlaces tail (lives_in t) (λ x. false) (λ p x. false) (location_at t) (slots_at t) t.edits
  begin_owes t later c = record {
    later = all_from-less (after i) (before (i + 1)) (listed t.edits) (omega arith) later;
    claims = subst (λ l. Claims Known l (Need (lives_in t) (λ x. false) (λ p x. false) (location_at t) (slots_at t)) E)
        (sym (after_part-clean insts (listed t.edits) placesf i n later)) c;
  }

  -- all operands are allocated: what the listing carries with the instruction in front
  pub cross_stands : (ops : List OperandValue) (places : List Place) (clobbers : PRegSet) (far : Progress) (t : StateValue) →
      Knows Known ops → Once (Counts ops) (what_of ops) → AreAllPlaced ops places far →
      ((p : Place) → far.clobbered p ≡ false → is_clobbered clobbers p ≡ false) →
      Located (what_of ops) far t → OwesPlaces tail far.lived far.out far.made_at (location_at t) (slots_at t) t.edits →
      Claims Known (Exec ops places clobbers ∷ after_part insts (listed t.edits) placesf i n)
      (Pending (what_of ops) far.here far.done far.out (location_at t) (slots_at t) 0) E
  cross_stands ops places clobbers far t knows once all clobbered st o =
      cross_all Known ops places clobbers far (location_at t) (slots_at t) (after_part insts (listed t.edits) placesf i n) E
      knows st.placed once all
      (record {
        listed = clobbered;
        slots = λ w p e. slot_unclobbered p (slot_in t w) (st.whole.below w) (opt_from (slot_in t w) p e) (opt_real (slot_in t w) p e);
      }) o.claims
    where
      slot_unclobbered : (p q : Place) → IsSlotOrNone t.slots.count q → q ≡ p → p ≢ NoPlace → far.clobbered p ≡ false
      slot_unclobbered NoPlace q b e ne = absurd (ne refl)
      slot_unclobbered (InRegister r) q b e ne = absurd (slot_no_register t.slots.count q r b e)
      slot_unclobbered (InSlot m) q b e ne = st.unclobbered m
