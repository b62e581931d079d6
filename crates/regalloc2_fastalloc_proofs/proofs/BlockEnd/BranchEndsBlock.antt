-- A branch at the end of its block, with its own moves: what it carries, and the slots that it leaves alone.
use Rattle.std.proofs.Common.{ℕ, ◌≡◌, ◌+◌, ◌<◌, ◌≤◌, ◌⊎◌, inl, inr, Bool, true, false, List, length, refl, sym, ap, ◌∙◌, subst, arith}
use Rattle.std.specs.Prelude.{Option, None, Some, slice_index_or}
use Rattle.regalloc2_names.specs.Register.{VirtualRegister}
use Rattle.regalloc2_names.specs.Place.{Place, NoPlace, InRegister, InSlot, before, after}
use Rattle.regalloc2_function.specs.FunctionValue.{inst_at, op_at}
use Rattle.regalloc2_function.specs.OutputValue.{place_at}
use Rattle.regalloc2_names.specs.Operand.{is_def, is_reading}
use Rattle.regalloc2_carry.specs.Listing.{Item}
use Rattle.regalloc2_carry.specs.Carry.{Carries}
use Rattle.regalloc2_carry.specs.BlockByPoints.{at_point, walked, listed}
use Rattle.regalloc2_carry.proofs.UnwrittenPlaces.{NoMoveTo, IsReadInPlace, Keeps, carries_kept_walked}
use Rattle.regalloc2_carry.proofs.CarryRules.{carries_weaken}
use Rattle.regalloc2_carry.proofs.BlockBackward.{Relied}
use Rattle.regalloc2_fastalloc_proofs.specs.InstSteps.{StateValue, AllocsInst, ends_block}
use Rattle.regalloc2_fastalloc_state.specs.declared.inst_regs.InstRegs.{InstRegs}
use Rattle.regalloc2_fastalloc_state.specs.StateParts.{slot_name, units_of}
use Rattle.regalloc2_fastalloc_proofs.specs.Safety.{IsWhole}
use Rattle.regalloc2_fastalloc_proofs.proofs.Safety.StepsKeepState.{slot_in, slot_no_register}
use Rattle.regalloc2_fastalloc_proofs.proofs.Operands.RecordOverState.{opt_from, opt_real, opt_none, location_at, slots_at, slot_below, grown_slots}
use Rattle.regalloc2_fastalloc_proofs.proofs.Slots.StepsKeepSlots.{Grown, IsAt, changes_grow}
use Rattle.regalloc2_fastalloc_proofs.proofs.Operands.DefinedNumbers.{defined_by, defined_by-at}
use Rattle.regalloc2_fastalloc_proofs.proofs.Inst.OneInstCarries.{IsBetweenInsts, Needed, carries_by_itself}
use Rattle.regalloc2_fastalloc_proofs.proofs.Walk.InstForOneVReg.{needed_parts, undefined_by}
use Rattle.regalloc2_fastalloc_proofs.proofs.Moves.StepsAppendEdits.{pushed_at}
use Rattle.regalloc2_fastalloc_proofs.proofs.BlockEnd.BranchAlone.{IsUseMove, Branched, moved_or, none_below}
use Rattle.regalloc2_fastalloc_proofs.proofs.Inst.ProperInsts.{ProperCode}
use Rattle.regalloc2_fastalloc_proofs.proofs.Changes.InstChanges.{allocs_inst_changes, any_operand}

-- what is known of the slots at the end of the whole walk: each has one owner, and the slots made after t are at or
-- above its count
pub record ToCome (F : ℕ → Option Place) (t : StateValue) : Type 0 where
  pub only : (x : ℕ) (p : Place) → F x ≡ Some p → (n : ℕ) × (p ≡ InSlot n)
  pub own : (x y n : ℕ) → F x ≡ Some (InSlot n) → F y ≡ Some (InSlot n) → x ≡ y
  pub stays : (x : ℕ) (p : Place) → slots_at t x ≡ Some p → F x ≡ Some p
  pub fresh : (x n : ℕ) → F x ≡ Some (InSlot n) → slots_at t x ≡ None → t.slots.count ≤ n

-- a slot is one below the count
pub slot_is_below_count : (t : StateValue) → IsWhole t → (x : ℕ) (p : Place) → slots_at t x ≡ Some p → (n : ℕ) × (p ≡ InSlot n) × (n < t.slots.count)
slot_is_below_count t w x NoPlace at = absurd (opt_real (slot_in t x) NoPlace at refl)
slot_is_below_count t w x (InRegister r) at = absurd (slot_no_register t.slots.count (slot_in t x) r (w.below x) (opt_from (slot_in t x) (InRegister r) at))
slot_is_below_count t w x (InSlot n) at = (n, refl, slot_below t.slots.count (slot_in t x) n (w.below x) (opt_from (slot_in t x) (InSlot n) at))

-- a place or none
pub cases_opt : (x : Option Place) → (x ≡ None) ⊎ ((p : Place) × (x ≡ Some p))
cases_opt None = inl refl
cases_opt (Some p) = inr (p, refl)

-- what is to come of later tables is to come of earlier ones
pub to_come-back : (At : ℕ → Type 0) (F : ℕ → Option Place) (a b : StateValue) → ((c : _) → 0 < units_of a.slots c) → Grown At a b → ToCome F b → ToCome F a
to_come-back At F a b units g h = record {
  only = h.only;
  own = h.own;
  stays = λ x p at. h.stays x p (grown_slots At a b g x p at);
  fresh = λ x n comes none. elim (cases_opt (slots_at b x)) [
    | inl later ↦ (let le : b.slots.count ≤ n = h.fresh x n comes later in let more : a.slots.count ≤ b.slots.count = g.count in omega (arith, le, more))
    | inr now ↦ (
        let same : Some now.0 ≡ Some (InSlot n) = sym (h.stays x now.0 now.1) ∙ comes in
        let is : now.0 ≡ InSlot n = cc in
        g.fresh units x n (opt_none (slot_name a.slots x) none) (opt_from (slot_name b.slots x) now.0 now.1 ∙ is))
  ];
}

-- A branch at the end of its block, the only writer of the slots of its definitions: the function and the places of its
-- operands; F: the slots at the walk's end; the branch, allocated between the tables old and middle; u: the registers
-- of the instruction after it.
pub record LastBranch : Type 1 where
  pub code : ProperCode
  open code use {Known, f, placesf, proper}
  pub F : ℕ → Option Place
  pub last : ℕ
  pub blank : List Place
  pub here : List Place
  pub old : StateValue
  pub middle : StateValue
  pub within : last < length f.insts
  pub are_listed : (k : ℕ) → k < length (inst_at f last).operands → place_at (placesf last) k ≡ slice_index_or here k NoPlace
  pub ends : ends_block (inst_at f last) ≡ true
  pub own_defs : (k : ℕ) → k < length (inst_at f last).operands → is_def (op_at (inst_at f last).operands k).kind ≡ true → (n : ℕ) →
      place_at (placesf last) k ≡ InSlot n → F (op_at (inst_at f last).operands k).vreg.number ≡ Some (InSlot n)
  pub between : IsBetweenInsts (last + 1) old
  pub a : AllocsInst last (inst_at f last) blank here old middle
  pub u : InstRegs
  pub br : Branched code last here u old middle

module _ (at_end : LastBranch) where
  open at_end.code use {Known, f, placesf, proper}
  open at_end use {code, F, last, blank, here, old, middle, within, are_listed, ends, own_defs, between, a, u, br}
  open at_end.code.proper use {knows}

  -- the owner of the slot that an operand is in
  pub reads_own : ToCome F middle → (v : VirtualRegister) → Known v → (n j : ℕ) → F v.number ≡ Some (InSlot n) → j < length (inst_at f last).operands →
      is_reading (op_at (inst_at f last).operands j) ≡ true → InSlot n ≡ slice_index_or here j NoPlace →
      (op_at (inst_at f last).operands j).vreg ≡ v
  reads_own h v known n j mine lt reads at = elim (cases_opt (slots_at middle v.number)) [
    | inl none ↦ (let le : middle.slots.count ≤ n = h.fresh v.number n mine none in let less : n < middle.slots.count = br.below j lt reads n (sym at) in
        absurd (omega (arith, le, less)))
    | inr now ↦ (
        let same : Some now.0 ≡ Some (InSlot n) = sym (h.stays v.number now.0 now.1) ∙ mine in
        let number : v.number ≡ (op_at (inst_at f last).operands j).vreg.number = br.shows j lt reads v.number (now.1 ∙ same ∙ ap Some at) in
        (knows last within).same (op_at (inst_at f last).operands j).vreg v ((knows last within).reading j lt reads) known (sym number))
  ]

  -- the branch leaves a vreg's slot to the vreg, unless it defines the vreg
  pub keeps_own : ToCome F middle → (v : VirtualRegister) → Known v → defined_by (inst_at f last).operands v.number ≡ false → (s : Place) →
      F v.number ≡ Some s →
      Keeps (inst_at f last).operands (placesf last) (inst_at f last).clobbers (at_point (listed middle.edits) (before last))
      (at_point (listed middle.edits) (after last)) v s
  keeps_own h v known undefined s comes =
      let n = h.only v.number s comes in
      let mine : F v.number ≡ Some (InSlot n.0) = comes ∙ ap Some n.1 in
      subst (Keeps (inst_at f last).operands (placesf last) (inst_at f last).clobbers (at_point (listed middle.edits) (before last))
      (at_point (listed middle.edits) (after last)) v) (sym n.1) (record {
        spared = record {
          no_definition = λ k lt d at.
              let w : ℕ = (op_at (inst_at f last).operands k).vreg.number in
              let same : w ≡ v.number = h.own w v.number n.0 (own_defs k lt d n.0 at) mine in
              let yes_defined : defined_by (inst_at f last).operands v.number ≡ true = subst (λ x. defined_by (inst_at f last).operands x ≡ true) same
              (defined_by-at (inst_at f last).operands k lt d) in cc;
          no_clobber = refl;
        };
        no_move_later = subst (NoMoveTo (InSlot n.0))
            (sym (pushed_at (IsUseMove last (inst_at f last).operands here) (after last) old.edits middle.edits
            (λ e is at. let x : e.0 ≡ before last = is.0 in omega (arith, x, at)) br.pushes))
            (none_below (InSlot n.0) (after last) (before (last + 1)) old.edits (omega arith) between.later);
        before_it = moved_or (IsUseMove last (inst_at f last).operands here) (InSlot n.0) (before last)
            (IsReadInPlace (inst_at f last).operands (placesf last) v (InSlot n.0)) old.edits middle.edits
            (λ e is to. elim is.1 [
              | inl r ↦ (let x : InRegister r.0 ≡ InSlot n.0 = sym r.1 ∙ to in absurd cc)
              | inr j ↦ (j.0, j.1, j.2, reads_own h v known n.0 j.0 mine j.1 j.2 (sym to ∙ j.3), are_listed j.0 j.1 ∙ sym j.3 ∙ to)
            ])
            (none_below (InSlot n.0) (before last) (before (last + 1)) old.edits (omega arith) between.later) br.pushes;
      })

  -- what it carries with its own moves, of a vreg that it doesn't define: from any place that must hold the vreg before
  -- it to the vreg's slot
  module _ (h : ToCome F middle) (v : VirtualRegister) (known : Known v) (undefined : defined_by (inst_at f last).operands v.number ≡ false) (block : Bool)
      (E : Place → Type 0) (mine : (p : Place) → E p → F v.number ≡ Some p) (there : block ≡ true → (p : Place) → E p → slots_at old v.number ≡ Some p) where
    abbrev L : List Item
    L = walked (inst_at f) (at_point (listed middle.edits)) placesf last 1

    abbrev On : Place → Type 0
    On = Relied false block (location_at middle v.number) (slots_at middle v.number) (F v.number)

    abbrev Has : Place → Type 0
    Has = Needed (defined_by (inst_at f last).operands) middle v

    relied : (p : Place) → Has p → On p
    relied p n = (refl, elim (needed_parts (defined_by (inst_at f last).operands) middle v p n) [ inl at ↦ inl at | inr o ↦ inr (inl o.1) ])

    base : Carries v L Has (λ p. ⊥)
    base = (carries_by_itself code last blank here old middle within are_listed between a).returns ends v known

    needed_nowhere : ((p : Place) → E p → ⊥) → Carries v L On E
    needed_nowhere none = carries_weaken v L Has On (λ p. ⊥) E relied none base

    kept : (s : Place) → F v.number ≡ Some s → Carries v L (λ p. Has p ⊎ (p ≡ s)) (λ p. ⊥ ⊎ (p ≡ s))
    kept s is = carries_kept_walked v (inst_at f) (at_point (listed middle.edits)) placesf last Has (λ p. ⊥) (λ p. p ≡ s)
        (undefined_by f placesf F v last undefined)
        (λ p e. subst (Keeps (inst_at f last).operands (placesf last) (inst_at f last).clobbers (at_point (listed middle.edits) (before last))
        (at_point (listed middle.edits) (after last)) v) (sym e) (keeps_own h v known undefined s is)) base

    slotted : (s : Place) → F v.number ≡ Some s → On s → Carries v L On E
    slotted s is on = carries_weaken v L (λ p. Has p ⊎ (p ≡ s)) On (λ p. ⊥ ⊎ (p ≡ s)) E
        (λ p n. elim n [ inl y ↦ relied p y | inr e ↦ subst On (sym e) on ])
        (λ p o. inr (let x : Some p ≡ Some s = sym (mine p o) ∙ is in cc)) (kept s is)

    by_table : (s : Place) → F v.number ≡ Some s → block ≡ true → (x : Option Place) → slots_at middle v.number ≡ x → Carries v L On E
    by_table s is yes_block None none = needed_nowhere (λ p o.
        let now : slots_at middle v.number ≡ Some p = grown_slots (IsAt last) old middle
        (changes_grow (IsAt last) (allocs_inst_changes (λ p q. inr refl) (λ p q. inl refl) (λ k lt. any_operand (λ e. IsAt last e.0) _) a))
        v.number p (there yes_block p o) in
        let x : None ≡ Some p = sym none ∙ now in cc)
    by_table s is yes_block (Some q) at =
        let same : Some q ≡ Some s = sym (h.stays v.number q at) ∙ is in
        slotted s is (refl, inr (inl (at ∙ same)))

    by_block : (s : Place) → F v.number ≡ Some s → (b : Bool) → block ≡ b → Carries v L On E
    by_block s is false free = slotted s is (refl, inr (inr (free, is)))
    by_block s is true yes_block = by_table s is yes_block (slots_at middle v.number) refl

    by_slot : (x : Option Place) → F v.number ≡ x → Carries v L On E
    by_slot None none = needed_nowhere (λ p o. let x : None ≡ Some p = sym none ∙ mine p o in cc)
    by_slot (Some s) is = by_block s is block refl

    pub own_moves : Carries v L On E
    own_moves = by_slot (F v.number) refl
