-- One instruction of a block, for one vreg, as the lemma on a block that is walked from its end requires.
use Rattle.std.proofs.Common.{ℕ, ◌≡◌, ◌⊎◌, inl, inr, Bool, true, false, List, refl, sym, ap, subst, arith}
use Rattle.std.specs.Prelude.{Option, None, Some, is_some}
use Rattle.regalloc2_names.specs.Register.{VirtualRegister}
use Rattle.regalloc2_names.specs.Place.{Place, before, after}
use Rattle.regalloc2_function.specs.FunctionValue.{FunctionValue, inst_at}
use Rattle.regalloc2_carry.specs.Listing.{Item}
use Rattle.regalloc2_carry.specs.Carry.{Carries}
use Rattle.regalloc2_semantics.specs.Sound.{Undefined}
use Rattle.regalloc2_carry.specs.BlockByPoints.{at_point, walked, listed}
use Rattle.regalloc2_carry.specs.OperandsPlaced.{located, in_slot, made}
use Rattle.regalloc2_carry.proofs.CarryRules.{carries_weaken}
use Rattle.regalloc2_carry.proofs.NotRead.{ReadsOthersOnly, silent_walked, carries_behind}
use Rattle.regalloc2_carry.proofs.UnwrittenPlaces.{Keeps, carries_kept_walked}
use Rattle.regalloc2_carry.proofs.BlockBackward.{StepOf}
use Rattle.regalloc2_fastalloc_proofs.specs.InstSteps.{StateValue}
use Rattle.regalloc2_fastalloc_proofs.proofs.Operands.RecordOverState.{location_at, slots_at}
use Rattle.regalloc2_fastalloc_proofs.proofs.Operands.DefinedNumbers.{defined_by, defined_by-at}
use Rattle.regalloc2_fastalloc_proofs.proofs.Inst.OneInstCarries.{Needed}

-- the places where a vreg is needed: its location and its slot
pub needed_parts : (out : ℕ → Bool) (t : StateValue) (v : VirtualRegister) (p : Place) → Needed out t v p → (location_at t v.number ≡ Some p)
    ⊎ ((out v.number ≡ false) × (slots_at t v.number ≡ Some p))
needed_parts out t v p (located lives at) = inl at
needed_parts out t v p (in_slot o at) = inr (o, at)
needed_parts out t v p (made m) = absurd cc

-- a vreg's location, and its slot unless `out` excludes the vreg, are places where its value is needed between
-- instructions
pub parts_needed : (out : ℕ → Bool) (t : StateValue) (v : VirtualRegister) (p : Place) → (location_at t v.number ≡ Some p)
    ⊎ ((out v.number ≡ false) × (slots_at t v.number ≡ Some p)) → Needed out t v p
parts_needed out t v p (inl at) = located (ap is_some at) at
parts_needed out t v p (inr a) = in_slot a.0 a.1

module _ (f : FunctionValue) (placesf : ℕ → List Place) (F : ℕ → Option Place) where
  -- the instruction with its moves
  abbrev pub step_at : ℕ → StateValue → List Item
  step_at i t = walked (inst_at f) (at_point (listed t.edits)) placesf i 1

  -- The instruction leaves a slot, made so far or later, to its own vreg: what the lemma requires of v in addition to
  -- the instruction's own lemma.
  pub record LeavesOwnSlot (v : VirtualRegister) (i : ℕ) (old new : StateValue) : Type 0 where
    pub stays : (p : Place) → slots_at old v.number ≡ Some p → F v.number ≡ Some p
    pub keeps : (s : Place) → defined_by (inst_at f i).operands v.number ≡ false → slots_at old v.number ≡ None → F v.number ≡ Some s →
        Keeps (inst_at f i).operands (placesf i) (inst_at f i).clobbers (at_point (listed new.edits) (before i)) (at_point (listed new.edits) (after i)) v s

  -- a vreg whose number isn't defined isn't defined
  pub undefined_by : (v : VirtualRegister) (i : ℕ) → defined_by (inst_at f i).operands v.number ≡ false → Undefined (inst_at f i).operands v
  undefined_by v i h j lt d e =
      let y : defined_by (inst_at f i).operands v.number ≡ true = subst (λ (w : VirtualRegister). defined_by (inst_at f i).operands w.number ≡ true) e
      (defined_by-at (inst_at f i).operands j lt d) in cc

  -- an instruction that carries a vreg as required, and leaves its slot alone, satisfies the premise on one step of a
  -- block for that vreg
  pub step_of : (v : VirtualRegister) (i : ℕ) (old new : StateValue) (later : Bool) →
      Carries v (step_at i new) (Needed (defined_by (inst_at f i).operands) new v) (Needed (λ x. false) old v) →
      (defined_by (inst_at f i).operands v.number ≡ true → location_at new v.number ≡ None) →
      LeavesOwnSlot v i old new → (later ≡ true → ReadsOthersOnly (inst_at f i).operands v) →
      StepOf v (step_at i new) (defined_by (inst_at f i).operands v.number) later (location_at new v.number) (slots_at new v.number) (location_at old v.number)
      (slots_at old v.number) (F v.number)
  step_of v i old new later law gone leaves unread = record {
    law = carries_weaken v (step_at i new) (Needed (defined_by (inst_at f i).operands) new v)
        (λ p. (location_at new v.number ≡ Some p) ⊎ ((defined_by (inst_at f i).operands v.number ≡ false) × (slots_at new v.number ≡ Some p)))
        (Needed (λ x. false) old v) (λ p. (location_at old v.number ≡ Some p) ⊎ (slots_at old v.number ≡ Some p))
        (needed_parts (defined_by (inst_at f i).operands) new v)
        (λ p h. elim h [ inl u ↦ parts_needed (λ x. false) old v p (inl u) | inr r ↦ parts_needed (λ x. false) old v p (inr (refl, r)) ]) law;
    gone = gone;
    stays = leaves.stays;
    left = λ s unwritten none comes P E c. carries_kept_walked v (inst_at f) (at_point (listed new.edits)) placesf i P E (λ p. p ≡ s)
        (undefined_by v i unwritten)
        (λ p e. subst (Keeps (inst_at f i).operands (placesf i) (inst_at f i).clobbers (at_point (listed new.edits) (before i))
        (at_point (listed new.edits) (after i)) v) (sym e) (leaves.keeps s unwritten none comes)) c;
    silent = λ is L E c. carries_behind v (step_at i new) L (λ p. ⊥) E
        (silent_walked v (inst_at f) (at_point (listed new.edits)) placesf i 1
        (λ j le lt. (let same : i ≡ j = omega arith in subst (λ k. ReadsOthersOnly (inst_at f k).operands v) same (unread is)))) c;
  }
