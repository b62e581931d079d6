-- An output whose slots were laid out disjointly, and whose moves keep to a class, owns its slots.
use Rattle.std.proofs.lemmas.Bool.{cases_lt}
use Rattle.regalloc2_parts.proofs.Resolving.{All-reversed}
use Rattle.std.proofs.Common.{ℕ, suc, ◌≡◌, ◌≢◌, ◌+◌, ◌-◌, ◌<◌, ◌≤◌, Bool, true, List, [], ◌∷◌, length, refl, sym, ap, ◌∙◌, ⊎_elim, subst, arith, slice_index_or}
use Rattle.std.specs.Prelude.{All, Some, sum_by, take}
use Rattle.std.proofs.lemmas.List.{get_or_default}
use Rattle.std.proofs.lemmas.List.Elements.{All-contains}
use Rattle.std.proofs.lemmas.List.Sums.{sum_by-cons}
use Rattle.regalloc2_names.specs.declared.RegClass.{RegClass}
use Rattle.regalloc2_names.specs.Register.{Register, VirtualRegister}
use Rattle.regalloc2_names.specs.Place.{Place, NoPlace, InRegister, InSlot}
use Rattle.regalloc2_function.specs.FunctionValue.{FunctionValue, InstValue, slot_size, inst_at, op_at}
use Rattle.regalloc2_function.specs.Machine.{MachineValue, scratch_of}
use Rattle.regalloc2_function.specs.OutputValue.{OutputValue, allocs_of, place_at}
use Rattle.regalloc2_function.specs.Fitting.{MachineFits}
use Rattle.regalloc2_fastalloc_state.specs.StateParts.{SlotsHaveOneOwner, units_of}
use Rattle.regalloc2_fastalloc_proofs.specs.InstSteps.{StateValue}
use Rattle.regalloc2_fastalloc_proofs.specs.Safety.{MayBeLocatedAt}
use Rattle.regalloc2_fastalloc_proofs.specs.SlotLayout.{OwnedSlot, IsEndOf, IsOfOneClass}
use Rattle.regalloc2_fastalloc_proofs.proofs.Operands.AllocsSoFar.{AreSoundOperands}
use Rattle.regalloc2_fastalloc_proofs.proofs.Safety.OutputOfWalk.{IsOutputOfWalk, made_in_order, place_is}
use Rattle.regalloc2_fastalloc_proofs.proofs.Slots.StepsKeepSlotsApart.{IsEndOrNone, KeepsToClass, IsOfMet, IsClassed}
use Rattle.regalloc2_fastalloc_proofs.proofs.Slots.SlotsOwned.{owner_known}
use Rattle.regalloc2_fastalloc_proofs.proofs.Slots.ApartSlotsAreOwned.{IsSlotOfKnown, OwnsSlots, slots_owned}

-- each register that the machine keeps for moves is of the class for which it is kept
abbrev pub KeepsOfClass : MachineValue → Type 0
KeepsOfClass env = (c : RegClass) (r : Register) → scratch_of env c ≡ Some r → r.class ≡ c

-- an end that is a place
whole_end : (made : List OwnedSlot) (point : ℕ) (class : RegClass) (p : Place) → p ≢ NoPlace → IsEndOrNone made point class p → IsEndOf made point class p
whole_end made point class NoPlace there h = there refl
whole_end made point class (InRegister r) there h = h
whole_end made point class (InSlot n) there h = h

-- each place of an output is that of an operand
operand_of : (insts : List InstValue) (d : InstValue) (j : ℕ) → j < sum_by (λ i. length i.operands) insts
    → (i k : ℕ) × (i < length insts) × (k < length (slice_index_or insts i d).operands) × (sum_by (λ i. length i.operands) (take i insts) + k ≡ j)
operand_of [] d j lt = absurd (omega (arith, lt))
operand_of (x ∷ xs) d j lt = ⊎_elim
    (λ (here : j < length x.operands). (0, j, omega arith, here, (let e : 0 + j ≡ j = omega arith in e)))
    (λ (later : length x.operands ≤ j).
    let all = sum_by-cons (λ (i : InstValue). length i.operands) x xs in
    let r = operand_of xs d (j - length x.operands) (omega (arith, lt, later, all)) in
    let less = r.2 in
    let at = r.4 in
    let first = sum_by-cons (λ (i : InstValue). length i.operands) x (take r.0 xs) in
    (suc r.0, r.1, omega (arith, less), r.3, omega (arith, at, later, first)))
    (cases_lt j (length x.operands))

module _ (f : FunctionValue) (env : MachineValue) (Known : VirtualRegister → Type 0) (May : ℕ → Type 0) (t : StateValue) (o : OutputValue)
    (m : IsOutputOfWalk f env Known May t o) (owned : SlotsHaveOneOwner t.slots)
    (sound_ops : (i : ℕ) → i < length f.insts → AreSoundOperands Known (inst_at f i).operands) (named : Bool) (Met : ℕ → RegClass → Type 0)
    (h : IsClassed Known named Met t) where
  -- an operand that is in a slot is in its own vreg's
  places_own : All (λ p. (n : ℕ) → p ≡ InSlot n → IsSlotOfKnown Known t.slots n) o.allocs
  places_own j d lt n at =
      let r = operand_of f.insts _ j (let long = m.allocs_long in omega (arith, lt, long)) in
      let place : place_at (allocs_of o r.0) r.1 ≡ InSlot n = place_is f env Known May t o m r.0 r.2 r.1 r.3 ∙ ap (λ x. slice_index_or o.allocs x NoPlace) r.4
      ∙ get_or_default o.allocs j NoPlace d lt ∙ at in
      let v : VirtualRegister = (op_at (inst_at f r.0).operands r.1).vreg in
      let k = owner_known f env Known May t o m owned sound_ops v n r.0 r.1 (r.2, r.3, refl) place in
      (v, k.0, k.1)

  moves_keep : All (IsOfOneClass h.made) o.edits
  moves_keep j d lt =
      let e = subst (All (KeepsToClass h.made)) (sym m.edits) (All-reversed (KeepsToClass h.made) t.edits h.edits) j d lt in
      let there = (made_in_order f env Known May t o m).moves_name_places j d lt in
      let point : ℕ = (slice_index_or o.edits j d).0 in
      (e.0, whole_end h.made point e.0 _ there.0 e.1, whole_end h.made point e.0 _ there.1 e.2)

  -- a debug location in a slot is its vreg's
  locations_own : All (λ d. (n : ℕ) → d.place ≡ InSlot n → IsSlotOfKnown Known t.slots n) o.debug_locations
  locations_own k d lt n at =
      let l = m.debug k d lt in
      (l.1.vreg, l.4.2, subst (MayBeLocatedAt env t.slots l.1.vreg) at l.4.3)

  -- an output made of the walk's tables owns its slots
  pub made_slots_owned : ((c : RegClass) → slot_size f.slot_sizes c ≡ units_of t.slots c) → f.named_by_last_slot ≡ named →
      ((i : ℕ) (c : RegClass) → Met i c → (i < length f.insts) × ((inst_at f i).is_branch ≡ true)) → OwnsSlots Known f t.slots o
  made_slots_owned sizes by_last branches =
      slots_owned Known f t.slots h.made h.laid o m.count sizes (by_last ∙ sym h.by_last)
      (λ i lt k less n at. owner_known f env Known May t o m owned sound_ops _ n i k (lt, less, refl) at) places_own moves_keep
      locations_own (λ c there i class index e. let met = All-contains (IsOfMet Met) h.made c h.met there i class index e in (branches i class met.0, met.1))

-- on a machine that fits, the registers reserved for moves are of their classes
pub fits_keeps : (f : FunctionValue) (env : MachineValue) → MachineFits f env → KeepsOfClass env
fits_keeps f env fits = λ c r own. ((fits c).scratch r own).0
