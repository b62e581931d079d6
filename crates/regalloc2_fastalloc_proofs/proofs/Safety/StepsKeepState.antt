-- The steps of the walk keep the tables whole.
use Rattle.std.proofs.Common.{ℕ, ◌≡◌, ◌≢◌, ◌+◌, ◌-◌, ◌<◌, ◌≤◌, Bool, true, false, cond, refl, arith, sym, ap, ◌∙◌, subst, inl, inr, ◌⊎◌, List}
use Rattle.std.specs.Prelude.{Option, None, Some, slice_index_or}
use Rattle.std.specs.Int.{next_multiple_of}
use Rattle.std.proofs.lemmas.Bool.{cases_eq}
use Rattle.regalloc2_names.specs.declared.RegClass.{RegClass}
use Rattle.regalloc2_names.specs.Register.{Register, VirtualRegister, class_code}
use Rattle.regalloc2_names.specs.Place.{Place, NoPlace, InRegister, InSlot, is_place}
use Rattle.regalloc2_fastalloc_state.specs.StateParts.{VRegAllocsValue, SpillSlotsValue, alloc_of, vreg_of_preg, slot_name, units_of, slot_end, new_slot}
use Rattle.regalloc2_fastalloc_state.specs.StateParts.{IsSlotOrNone, SetsAlloc, GetsSpillSlot}
use Rattle.regalloc2_fastalloc_proofs.specs.InstSteps.{StateValue}
use Rattle.regalloc2_fastalloc_proofs.specs.Safety.{IsWhole}
use Rattle.regalloc2_carry.specs.Instruction.{IsTidy}
use Rattle.regalloc2_semantics.proofs.Cells.{is_place-true, is_place-same, is_place-other}

-- the vregs' locations and slots, as functions of the number
abbrev pub place_in : StateValue → ℕ → Place
place_in t n = alloc_of t.places n

-- the spill slot of the vreg of a number, or none
abbrev pub slot_in : StateValue → ℕ → Place
slot_in t n = slot_name t.slots n

-- the order in which registers were used doesn't matter
pub whole_used : (t : StateValue) (order : List (List Register)) → IsWhole t → IsWhole (record t { lrus = order })
whole_used t order w =
    record { holds = w.holds; stands_in = w.stands_in; own_slot = w.own_slot; below = w.below; own = w.own; units = w.units }

pub slot_no_register : (count : ℕ) (p : Place) (r : Register) → IsSlotOrNone count p → p ≡ InRegister r → ⊥
slot_no_register count NoPlace r h e = cc
slot_no_register count (InRegister q) r h e = h
slot_no_register count (InSlot k) r h e = cc

slot_number : (count : ℕ) (p : Place) → IsSlotOrNone count p → p ≢ NoPlace → (k : ℕ) × (p ≡ InSlot k) × (k < count)
slot_number count NoPlace h x = absurd (x refl)
slot_number count (InRegister q) h x = absurd h
slot_number count (InSlot k) h x = (k, refl, h)

-- in a whole state two vregs share neither a register nor a spill slot, and a vreg in a slot is in its own
pub whole_tidy : (t : StateValue) → IsWhole t → IsTidy (place_in t) (slot_in t)
whole_tidy t w = record {
  apart = λ m n r h g.
      let x = w.stands_in m r h in let y = w.stands_in n r g in
      let s : Some x.1.0 ≡ Some y.1.0 = sym x.1.2 ∙ y.1.2 in
      let same : x.1.0 ≡ y.1.0 = cc in
      sym x.1.1 ∙ ap (λ (v : VirtualRegister). v.number) same ∙ y.1.1;
  own_slot = w.own_slot;
  no_register = λ n r h. slot_no_register t.slots.count (slot_in t n) r (w.below n) h;
  one_owner = w.own;
}

-- a vreg that leaves the registers, for a slot or for nowhere
holder_after_leaving : (old new : VRegAllocsValue) (v : VirtualRegister) (p : Place) → ((q : Register) → is_place p (InRegister q) ≡ false) → SetsAlloc old new v p →
    (r : Register) → r.number < 64 →
    vreg_of_preg new r ≡ cond (is_place (alloc_of old v.number) (InRegister r)) None (vreg_of_preg old r)
holder_after_leaving old new v p away s r lt = s.holders r lt
    ∙ ap (λ b. cond b (Some v) (cond (is_place (alloc_of old v.number) (InRegister r)) None (vreg_of_preg old r))) (away r)

holder_left : (b : Bool) (x : Option VirtualRegister) (w : VirtualRegister) → cond b None x ≡ Some w → (b ≡ false) × (x ≡ Some w)
holder_left true x w h = absurd cc
holder_left false x w h = (refl, h)

not_here : (p : Place) (r : Register) → is_place p (InRegister r) ≡ false → p ≡ InRegister r → ⊥
not_here p r h e = let y : is_place p (InRegister r) ≡ true = subst (λ q. is_place q (InRegister r) ≡ true) (sym e) (is_place-same (InRegister r)) in cc

module _ (old new : StateValue) (v : VirtualRegister) (p : Place) (away : (q : Register) → is_place p (InRegister q) ≡ false)
    (s : SetsAlloc old.places new.places v p) (w : IsWhole old) where
  -- once a vreg has left the registers, each vreg that a register has is located there
  pub away_holds : (r : Register) (u : VirtualRegister) → r.number < 64 → vreg_of_preg new.places r ≡ Some u → place_in new u.number ≡ InRegister r
  away_holds r u lt h =
      let x = holder_left (is_place (alloc_of old.places v.number) (InRegister r)) (vreg_of_preg old.places r) u
      (sym (holder_after_leaving old.places new.places v p away s r lt) ∙ h) in
      let there : place_in old u.number ≡ InRegister r = w.holds r u lt x.1 in
      let ne : u.number ≢ v.number = λ e. not_here (alloc_of old.places v.number) r x.0 (ap (alloc_of old.places) (sym e) ∙ there) in
      s.others u.number ne ∙ there

  -- once a vreg has left the registers, each vreg that is located in a register is the one that this register has
  pub away_stands : (n : ℕ) (r : Register) → place_in new n ≡ InRegister r → (r.number < 64)
      × ((u : VirtualRegister) × (u.number ≡ n) × (vreg_of_preg new.places r ≡ Some u))
  away_stands n r h = elim (cases_eq n v.number) [
    | inl e ↦ absurd (not_here p r (away r) (sym s.here ∙ ap (alloc_of new.places) (sym e) ∙ h))
    | inr ne ↦ (
        let there : place_in old n ≡ InRegister r = sym (s.others n ne) ∙ h in
        let x = w.stands_in n r there in
        let other : is_place (alloc_of old.places v.number) (InRegister r) ≡ false = is_place-other (alloc_of old.places v.number) (InRegister r)
        (λ e. ne ((whole_tidy old w).apart n v.number r there e)) in
        (x.0, (x.1.0, x.1.1, holder_after_leaving old.places new.places v p away s r x.0 ∙ ap (λ b. cond b None (vreg_of_preg old.places r)) other ∙ x.1.2)))
  ]

-- a slot that is given
new_slot_from : (s : SpillSlotsValue) (c : RegClass) → 0 < units_of s c → (s.count ≤ new_slot s c) × (new_slot s c < slot_end s c)
new_slot_from s c u = by_test s.by_last
  where
    first : ℕ
    first = next_multiple_of s.count (units_of s c)

    from : s.count ≤ next_multiple_of s.count (units_of s c)
    from = omega arith

    by_test : (b : Bool) → (s.count ≤ cond b (next_multiple_of s.count (units_of s c) + units_of s c - 1) (next_multiple_of s.count (units_of s c)))
        × (cond b (next_multiple_of s.count (units_of s c) + units_of s c - 1) (next_multiple_of s.count (units_of s c)) < next_multiple_of s.count
        (units_of s c) + units_of s c)
    by_test true = (omega (arith, from), omega (arith, from))
    by_test false = (from, omega arith)

module _ (old new : SpillSlotsValue) (v : VirtualRegister) (s : Place) (g : GetsSpillSlot old new v s) (units : (c : RegClass) → 0 < units_of old c)
    (below : (n : ℕ) → IsSlotOrNone old.count (slot_name old n)) (own : (m n k : ℕ) → slot_name old m ≡ InSlot k → slot_name old n ≡ InSlot k → m ≡ n) where
  -- the given slot is below the count, and was either the vreg's or no vreg's
  pub given : (k : ℕ) × (s ≡ InSlot k) × (k < new.count) × ((slot_name old v.number ≡ s) ⊎ ((slot_name old v.number ≡ NoPlace) × (old.count ≤ k)))
  given = by_place (slot_name old v.number) refl
    where
      by_place : (p : Place) → slot_name old v.number ≡ p → (k : ℕ) × (s ≡ InSlot k) × (k < new.count)
          × ((slot_name old v.number ≡ s) ⊎ ((slot_name old v.number ≡ NoPlace) × (old.count ≤ k)))
      by_place NoPlace e =
          let m = g.made e in
          let x = new_slot_from old v.class (units v.class) in
          (new_slot old v.class, m.0, omega (arith, x.1, m.1), inr (e, x.0))
      by_place (InRegister r) e = absurd (slot_no_register old.count (slot_name old v.number) r (below v.number) e)
      by_place (InSlot k) e =
          let there : slot_name old v.number ≢ NoPlace = λ z. let y : InSlot k ≡ NoPlace = sym e ∙ z in cc in
          let h = g.had there in
          let x = slot_number old.count (slot_name old v.number) (below v.number) there in
          (x.0, h.0 ∙ x.1, omega (arith, x.2, h.1), inl (sym h.0))

  -- the slot that a vreg gets is no other vreg's
  pub given_own : (n : ℕ) → slot_name new n ≡ s → n ≡ v.number
  given_own n h = elim (cases_eq n v.number) [
    | inl e ↦ e
    | inr ne ↦ (
        let there : slot_name old n ≡ s = sym (g.others n ne) ∙ h in
        elim given.3 [
          | inl had ↦ own n v.number given.0 (there ∙ given.1) (had ∙ given.1)
          | inr made ↦ (let x = slot_number old.count (slot_name old n) (below n) (λ z. let y : InSlot given.0 ≡ NoPlace = sym given.1 ∙ sym there ∙ z in cc) in
              let y : InSlot x.0 ≡ InSlot given.0 = sym x.1 ∙ there ∙ given.1 in let same : x.0 ≡ given.0 = cc in absurd (omega (arith, x.2, made.1)))
        ])
  ]

  -- once a vreg has got its slot, all slots are below the count
  pub given_below : (n : ℕ) → IsSlotOrNone new.count (slot_name new n)
  given_below n = elim (cases_eq n v.number) [
    | inl e ↦ subst (IsSlotOrNone new.count) (sym (ap (slot_name new) e ∙ g.gives ∙ given.1)) given.2
    | inr ne ↦ subst (IsSlotOrNone new.count) (sym (g.others n ne)) (grows (slot_name old n) (below n))
  ]
    where
      grows : (p : Place) → IsSlotOrNone old.count p → IsSlotOrNone new.count p
      grows NoPlace h = h
      grows (InRegister r) h = h
      grows (InSlot k) h = omega (arith, g.grows)

  -- once a vreg has got its slot, each class's slots still have at least one unit
  pub given_units : (c : RegClass) → 0 < units_of new c
  given_units c = subst (λ xs. 0 < slice_index_or xs (class_code c) 0) (sym g.sizes) (units c)

-- a vreg that had no location arrives in a register in which no vreg is located
module _ (old new : StateValue) (v : VirtualRegister) (r : Register) (lt : r.number < 64) (nowhere : place_in old v.number ≡ NoPlace)
    (empty : (n : ℕ) → place_in old n ≡ InRegister r → ⊥) (s : SetsAlloc old.places new.places v (InRegister r)) (w : IsWhole old) where
  arrived : (q : Register) → q.number < 64 → vreg_of_preg new.places q ≡ cond (is_place (InRegister r) (InRegister q)) (Some v) (vreg_of_preg old.places q)
  arrived q less = s.holders q less ∙ ap (λ p. cond (is_place (InRegister r) (InRegister q)) (Some v)
      (cond (is_place p (InRegister q)) None (vreg_of_preg old.places q))) nowhere

  -- once a vreg has moved to an empty register, each vreg that a register has is located there
  pub arrive_holds : (q : Register) (u : VirtualRegister) → q.number < 64 → vreg_of_preg new.places q ≡ Some u → place_in new u.number ≡ InRegister q
  arrive_holds q u less h = by_test (is_place (InRegister r) (InRegister q)) refl (sym (arrived q less) ∙ h)
    where
      by_test : (b : Bool) → is_place (InRegister r) (InRegister q) ≡ b → cond b (Some v) (vreg_of_preg old.places q) ≡ Some u
          → place_in new u.number ≡ InRegister q
      by_test true e x = let same : v ≡ u = cc in ap (λ (y : VirtualRegister). place_in new y.number) (sym same) ∙ s.here
          ∙ is_place-true (InRegister r) (InRegister q) e
      by_test false e x =
          let there : place_in old u.number ≡ InRegister q = w.holds q u less x in
          let ne : u.number ≢ v.number = λ y. let z : NoPlace ≡ InRegister q = sym nowhere ∙ ap (place_in old) (sym y) ∙ there in cc in
          s.others u.number ne ∙ there

  -- once a vreg has moved to an empty register, each vreg that is located in a register is the one that this register
  -- has
  pub arrive_stands : (n : ℕ) (q : Register) → place_in new n ≡ InRegister q → (q.number < 64)
      × ((u : VirtualRegister) × (u.number ≡ n) × (vreg_of_preg new.places q ≡ Some u))
  arrive_stands n q h = elim (cases_eq n v.number) [
    | inl e ↦ (
        let there : InRegister r ≡ InRegister q = sym s.here ∙ ap (place_in new) (sym e) ∙ h in
        let same : r ≡ q = cc in
        let less : q.number < 64 = subst (λ (x : Register). x.number < 64) same lt in
        let yes : is_place (InRegister r) (InRegister q) ≡ true = subst (λ p. is_place (InRegister r) p ≡ true) there (is_place-same (InRegister r)) in
        (less, (v, sym e, arrived q less ∙ ap (λ b. cond b (Some v) (vreg_of_preg old.places q)) yes)))
    | inr ne ↦ (
        let there : place_in old n ≡ InRegister q = sym (s.others n ne) ∙ h in
        let x = w.stands_in n q there in
        let other : is_place (InRegister r) (InRegister q) ≡ false = is_place-other (InRegister r) (InRegister q) (λ e. empty n (there ∙ sym e)) in
        (x.0, (x.1.0, x.1.1, arrived q x.0 ∙ ap (λ b. cond b (Some v) (vreg_of_preg old.places q)) other ∙ x.1.2)))
  ]
