-- If the moves of the walk write only what they may and places are good, each instruction but a block's last one leaves
-- slots to their owners.
use Rattle.regalloc2_parts.proofs.Resolving.{All-reversed}
use Rattle.std.proofs.Common.{ℕ, ◌≡◌, ◌+◌, ◌<◌, ◌≤◌, inl, inr, true, false, List, length, refl, sym, ap, ◌∙◌, subst, arith}
use Rattle.std.specs.Prelude.{All, Some}
use Rattle.regalloc2_names.specs.Register.{VirtualRegister}
use Rattle.regalloc2_names.specs.Place.{Place, NoPlace, InRegister, InSlot, before, after}
use Rattle.regalloc2_function.specs.FunctionValue.{FunctionValue, block_at, inst_at, op_at, last_of}
use Rattle.regalloc2_function.specs.Machine.{MachineValue}
use Rattle.regalloc2_function.specs.OutputValue.{place_at}
use Rattle.regalloc2_names.specs.Operand.{is_def}
use Rattle.regalloc2_function.specs.WellFormed.{BlocksFollow}
use Rattle.regalloc2_carry.specs.BlockByPoints.{at_point, listed}
use Rattle.regalloc2_carry.proofs.UnwrittenPlaces.{IsReadInPlace, Keeps}
use Rattle.regalloc2_carry.proofs.Order.{ends_before, ends_within}
use Rattle.regalloc2_fastalloc_state.specs.StateParts.{slot_name}
use Rattle.regalloc2_fastalloc_proofs.specs.InstSteps.{StateValue}
use Rattle.regalloc2_fastalloc_proofs.specs.Safety.{MayBeLocatedAt, IsSafe, IsWhole}
use Rattle.regalloc2_fastalloc_proofs.proofs.Safety.StepsKeepState.{slot_in, slot_no_register}
use Rattle.regalloc2_fastalloc_proofs.proofs.Operands.RecordOverState.{slots_at, opt_from, opt_real, grown_slots}
use Rattle.regalloc2_fastalloc_proofs.proofs.Operands.DefinedNumbers.{defined_by, defined_by-at}
use Rattle.regalloc2_fastalloc_proofs.proofs.Walk.InstsCarry.{AreListed}
use Rattle.regalloc2_fastalloc_proofs.proofs.Safety.InstsKeepSafe.{HasGood, WritesAt, WritesFrom, place_of}
use Rattle.regalloc2_fastalloc_proofs.proofs.Slots.InstLeavesOwnedSlot.{no_move_or, writes_allowed}
use Rattle.regalloc2_fastalloc_proofs.proofs.Slots.StepsKeepSlots.{Grown, cases_none, AnyPlace}
use Rattle.regalloc2_fastalloc_proofs.proofs.Safety.FunctionKeepsSafe.{no_branch_writes, none_written_behind}
use Rattle.regalloc2_fastalloc_proofs.proofs.Walk.LastInstAndRest.{KeepsSlots}
use Rattle.regalloc2_fastalloc_proofs.proofs.Walk.FunctionLaws.{PlacedCode}

-- The slots that may be written around an instruction: before it the slots in which it reads a vreg, after it the slots
-- of the vregs that it defines.
pub record WritesSound (f : FunctionValue) (placesf : ℕ → List Place) (Writes : ℕ → VirtualRegister → ℕ → Type 0) (i : ℕ) : Type 0 where
  pub sooner : (v : VirtualRegister) (n : ℕ) → Writes (before i) v n → IsReadInPlace (inst_at f i).operands (placesf i) v (InSlot n)
  pub later : (v : VirtualRegister) (n : ℕ) → Writes (after i) v n → (k : ℕ) × (k < length (inst_at f i).operands)
      × (is_def (op_at (inst_at f i).operands k).kind ≡ true) × ((op_at (inst_at f i).operands k).vreg ≡ v)

-- the slots that the walk writes are such, at an instruction that is no branch
pub writes_sound : (f : FunctionValue) (placesf : ℕ → List Place) (places : List Place) → AreListed f placesf 0 places → (i : ℕ) →
    (inst_at f i).is_branch ≡ false → WritesSound f placesf (WritesAt f places) i
writes_sound f placesf places are_listed i plain = record {
  sooner = λ v n w. elim w [
    | inr x ↦ absurd (no_branch_writes f i v plain x)
    | inl o ↦ elim o.5 [
      | inl a ↦ (let e : before i ≡ after o.0 = a.0 in absurd (omega (arith, e)))
      | inr r ↦ (
          let e : before i ≡ before o.0 = r.0 in
          let same : o.0 ≡ i = omega (arith, e) in
          let read : IsReadInPlace (inst_at f o.0).operands (placesf o.0) v (InSlot n) = (o.1, o.3, r.1, o.4, are_listed o.0 (omega arith) o.2 o.1 o.3 ∙ r.2) in
          subst (λ (j : ℕ). IsReadInPlace (inst_at f j).operands (placesf j) v (InSlot n)) same read)
    ]
  ];
  later = λ v n w. elim w [
    | inr x ↦ absurd (none_written_behind f i v x)
    | inl o ↦ elim o.5 [
      | inl a ↦ (
          let e : after i ≡ after o.0 = a.0 in
          let same : o.0 ≡ i = omega (arith, e) in
          subst (λ (j : ℕ). (k : ℕ) × (k < length (inst_at f j).operands) × (is_def (op_at (inst_at f j).operands k).kind ≡ true)
          × ((op_at (inst_at f j).operands k).vreg ≡ v)) same (o.1, o.3, a.1, o.4))
      | inr r ↦ (let e : after i ≡ before o.0 = r.0 in absurd (omega (arith, e)))
    ]
  ];
}

-- stores write no other slots around an instruction within a block: a store is before a block's first instruction
pub writes_sound_in : (f : FunctionValue) → BlocksFollow f → (placesf : ℕ → List Place) (places : List Place) → AreListed f placesf 0 places → (b i : ℕ) →
    b < length f.blocks → (block_at f b).range.first ≤ i → i < last_of (block_at f b) → (inst_at f i).is_branch ≡ false →
    WritesSound f placesf (WritesFrom f places (b + 1)) i
writes_sound_in f follow placesf places are_listed b i lb ge less plain =
    let w = writes_sound f placesf places are_listed i plain in
    record {
      sooner = λ v n x. elim x [
        | inl y ↦ w.sooner v n y
        | inr s ↦ (let at : before i ≡ before (block_at f s.0).range.first = s.3 in
            let apart = ends_before f follow b s.0 (let ge2 = s.1 in omega (arith, ge2)) s.2 in absurd (omega (arith, at, apart, less)))
      ];
      later = λ v n x. elim x [
        | inl y ↦ w.later v n y
        | inr s ↦ (let at : after i ≡ before (block_at f s.0).range.first = s.3 in absurd (omega (arith, at)))
      ];
    }

module _ (env : MachineValue) (code : PlacedCode) (final : StateValue) (Writes : ℕ → ℕ → VirtualRegister → ℕ → Type 0) (May : ℕ → Type 0)
    (whole : IsWhole final) (same : (v w : VirtualRegister) → code.Known v → code.Known w → v.number ≡ w.number → v ≡ w) (places : List Place)
    (are_listed : AreListed code.f code.placesf 0 places)
    (good : (j k : ℕ) → j < length code.f.insts → k < length (inst_at code.f j).operands → HasGood env final.slots code.f places j k)
    (sound : (b i : ℕ) → b < length code.f.blocks → (block_at code.f b).range.first ≤ i → i < last_of (block_at code.f b) → WritesSound code.f code.placesf
    (Writes b) i)
  where
    open code use {Known, f, proper, kept, follow, ends, placesf}
    open code.proper use {orderly}

    -- a definition in a slot is in its own vreg's
    own_definition : (i : ℕ) → i < length f.insts → (k : ℕ) → k < length (inst_at f i).operands → is_def (op_at (inst_at f i).operands k).kind ≡ true →
        (n : ℕ) →
        place_at (placesf i) k ≡ InSlot n →
        slot_name final.slots (op_at (inst_at f i).operands k).vreg.number ≡ InSlot n
    own_definition i lt k less def n at =
        let g : MayBeLocatedAt env final.slots (op_at (inst_at f i).operands k).vreg (place_of f places i k) = (good i k lt less).good.place
        ((orderly i lt).allocated k less def) in
        subst (MayBeLocatedAt env final.slots (op_at (inst_at f i).operands k).vreg) (sym (are_listed i (omega arith) lt k less) ∙ at) g

    module _ (b i : ℕ) (lb : b < length f.blocks) (ge : (block_at f b).range.first ≤ i) (less : i < last_of (block_at f b)) (lt : i < length f.insts)
        (v : VirtualRegister) (known : Known v)
        (free : defined_by (inst_at f i).operands v.number ≡ false) (u : StateValue) (safe : IsSafe env Known (Writes b) May u) (rest : Grown AnyPlace u final)
        (n : ℕ)
        (mine : slots_at final v.number ≡ Some (InSlot n)) where
      not_defined : (k : ℕ) → k < length (inst_at f i).operands → is_def (op_at (inst_at f i).operands k).kind ≡ true →
          (op_at (inst_at f i).operands k).vreg.number ≡ v.number → ⊥
      not_defined k few d e = (let y : defined_by (inst_at f i).operands v.number ≡ true = subst (λ (x : ℕ). defined_by (inst_at f i).operands x ≡ true) e
          (defined_by-at (inst_at f i).operands k few d) in cc)

      -- the moves so far that go there
      so_far : All (λ e. e.1.to ≡ InSlot n → Writes b e.0 v n) (listed u.edits)
      so_far = All-reversed (λ e. e.1.to ≡ InSlot n → Writes b e.0 v n) u.edits
          (writes_allowed env Known same (Writes b) May (slots_at final)
          (λ x y k c d. whole.own x y k (opt_from (slot_in final x) (InSlot k) c) (opt_from (slot_in final y) (InSlot k) d)) u safe.edits
          (grown_slots AnyPlace u final rest)
          (λ x k is. elim (cases_none (slot_name u.slots x)) [
            | inl none ↦ inr (rest.fresh safe.units x k none (opt_from (slot_in final x) (InSlot k) is))
            | inr there ↦ inl (sym (rest.stay x there) ∙ opt_from (slot_in final x) (InSlot k) is)
          ]) n v known mine)

      keeps_slot : Keeps (inst_at f i).operands (placesf i) (inst_at f i).clobbers (at_point (listed u.edits) (before i)) (at_point (listed u.edits) (after i))
          v (InSlot n)
      keeps_slot = record {
        spared = record {
          no_definition = λ k few d at. not_defined k few d (whole.own (op_at (inst_at f i).operands k).vreg.number v.number n
              (own_definition i lt k few d n at)
              (opt_from (slot_in final v.number) (InSlot n) mine));
          no_clobber = refl;
        };
        no_move_later = elim (no_move_or (InSlot n) (after i) (listed u.edits) ⊥ (λ k d few at to.
            let w = (sound b i lb ge less).later v n (subst (λ q. Writes b q v n) at (so_far k d few to)) in
            not_defined w.0 w.1 w.2 (ap (λ (x : VirtualRegister). x.number) w.3))) [
              | inl none ↦ none
              | inr r ↦ absurd r
            ];
        before_it = no_move_or (InSlot n) (before i) (listed u.edits) (IsReadInPlace (inst_at f i).operands (placesf i) v (InSlot n))
            (λ k d few at to. (sound b i lb ge less).sooner v n (subst (λ q. Writes b q v n) at (so_far k d few to)));
      }

    -- each instruction but a block's last one leaves a vreg's final slot alone, unless it defines that vreg
    pub keeps_slots : KeepsSlots code final (λ b u. IsSafe env Known (Writes b) May u)
    keeps_slots b i lb ge less u safe rest v known free s is = by_place s refl
      where
        lt : i < length f.insts
        lt = (let within = ends_within f follow b lb in omega (arith, less, within))

        by_place : (p : Place) → s ≡ p → Keeps (inst_at f i).operands (placesf i) (inst_at f i).clobbers (at_point (listed u.edits) (before i))
            (at_point (listed u.edits) (after i)) v s
        by_place NoPlace e = absurd (opt_real (slot_in final v.number) s is e)
        by_place (InRegister r) e = absurd (slot_no_register final.slots.count (slot_in final v.number) r (whole.below v.number)
            (opt_from (slot_in final v.number) (InRegister r) (is ∙ ap Some e)))
        by_place (InSlot n) e = subst (Keeps (inst_at f i).operands (placesf i) (inst_at f i).clobbers (at_point (listed u.edits) (before i))
            (at_point (listed u.edits) (after i)) v) (sym e)
            (keeps_slot b i lb ge less lt v known free u safe rest n (is ∙ ap Some e))
