-- An instruction that defines a vreg, with the moves around it: what it wrote is in the slot after it.
use Rattle.std.proofs.Common.{ℕ, ◌≡◌, ◌+◌, ◌*◌, ◌<◌, inl, inr, Bool, true, false, List, [], length, refl, sym, ap, ◌∙◌, subst, arith, suc}
use Rattle.std.specs.Prelude.{None, Some, slice_index_or}
use Rattle.std.proofs.lemmas.Bool.{cases_Bool}
use Rattle.regalloc2_names.specs.Register.{Register, VirtualRegister, registers_of}
use Rattle.regalloc2_names.specs.Operand.{OperandValue, is_def, is_late}
use Rattle.regalloc2_names.specs.Place.{Place, NoPlace, InRegister, InSlot, after}
use Rattle.regalloc2_function.specs.FunctionValue.{inst_at, op_at}
use Rattle.regalloc2_function.specs.OutputValue.{place_at}
use Rattle.regalloc2_carry.specs.Listing.{with_moves}
use Rattle.regalloc2_carry.specs.Carry.{Carries, is_clobbered, Untouched}
use Rattle.regalloc2_carry.specs.BlockByPoints.{AllFrom, at_point, walked, listed}
use Rattle.regalloc2_carry.specs.OperandsPlaced.{Need, located, in_slot, made}
use Rattle.regalloc2_carry.proofs.Points.{at_point-none}
use Rattle.regalloc2_carry.proofs.CarryRules.{carries_weaken}
use Rattle.regalloc2_carry.proofs.UnwrittenPlaces.{NoMoveTo}
use Rattle.regalloc2_fastalloc_state.specs.declared.inst_regs.InstRegs.{InstRegs}
use Rattle.regalloc2_fastalloc_proofs.specs.InstSteps.{StateValue, AllocsInst, ends_block}
use Rattle.regalloc2_fastalloc_proofs.proofs.Safety.StepsKeepState.{place_in, slot_in}
use Rattle.regalloc2_fastalloc_proofs.proofs.Operands.RecordOverState.{location_at, slots_at, opt_none}
use Rattle.regalloc2_fastalloc_proofs.proofs.Inst.AcrossInst.{lives_in}
use Rattle.regalloc2_fastalloc_proofs.proofs.Inst.BoundaryToFirstOperand.{CarriedBut, ready_for_operands}
use Rattle.regalloc2_fastalloc_proofs.proofs.Inst.LastOperandToBoundary.{listing_carries}
use Rattle.regalloc2_fastalloc_proofs.proofs.Operands.DefinedNumbers.{defined_by, defined_by-at}
use Rattle.regalloc2_fastalloc_proofs.proofs.Operands.AllOperands.{laid_all, laid_over}
use Rattle.regalloc2_fastalloc_proofs.proofs.Moves.StepsAppendEdits.{appends_edits_trans}
use Rattle.regalloc2_fastalloc_proofs.proofs.Slots.StepsKeepSlots.{Grown, grown_then, changes_grow, AnyPlace}
use Rattle.regalloc2_fastalloc_proofs.proofs.Changes.InstChanges.{free_operand, processes_operands_at_changes, moves_uses_changes}
use Rattle.regalloc2_fastalloc_proofs.proofs.Inst.OneInstCarries.{IsBetweenInsts, CarriesByItself, carries_by_itself, carried_nil, Needed}
use Rattle.regalloc2_fastalloc_proofs.specs.Located.{Absent}
use Rattle.regalloc2_fastalloc_proofs.proofs.Debug.UnnamedStaysUnlocated.{out_then, processes_operands_at_out, changes_out, whole_absent}
use Rattle.regalloc2_fastalloc_proofs.proofs.Debug.DefStoresIntoSlot.{Off, evicts_fixed_off, evicts_each_off, off_none}
use Rattle.regalloc2_fastalloc_proofs.proofs.Debug.DefLeavesValueInSlot.{Into, Bare, Full, before_off, pass_into, other_number, slotted, DefSlot}
use Rattle.regalloc2_fastalloc_proofs.proofs.Debug.DefLeavesValueInSlot.{asks_nowhere, asks_value}
use Rattle.regalloc2_fastalloc_proofs.proofs.Operands.BlockTail.{tail_of}
use Rattle.regalloc2_fastalloc_proofs.proofs.Inst.ProperInsts.{ProperCode}

module _ (code : ProperCode) where
  open code use {Known, f, placesf, proper}
  open code.proper use {orderly, avoids, knows}

  module _ (i : ℕ) (blank here : List Place) (old new : StateValue) (lt : i < length f.insts)
      (at : (k : ℕ) → k < length (inst_at f i).operands → place_at (placesf i) k ≡ slice_index_or here k NoPlace)
      (b : IsBetweenInsts (i + 1) old) (a : AllocsInst i (inst_at f i) blank here old new) (plain : ends_block (inst_at f i) ≡ false)
      (d : ℕ) (within : d < length (inst_at f i).operands) (def : is_def (op_at (inst_at f i).operands d).kind ≡ true) (n : ℕ)
      (mine : slot_in new (op_at (inst_at f i).operands d).vreg.number ≡ InSlot n) where
    abbrev ops : List OperandValue
    ops = (inst_at f i).operands

    abbrev v : VirtualRegister
    v = (op_at ops d).vreg

    abbrev clob : Place → Bool
    clob = is_clobbered (inst_at f i).clobbers

    -- the definition, and the slot of its vreg
    abbrev def_slot : DefSlot
    def_slot = record {
      Known = Known;
      insts = inst_at f;
      placesf = placesf;
      i = i;
      ops = ops;
      lived = lives_in old;
      clob = clob;
      ends_block = ends_block (inst_at f i);
      orderly = orderly i lt;
      plain = plain;
      d = d;
      within = within;
      def = def;
      n = n;
    }

    abbrev BareAt : Bool → ℕ → List Place → InstRegs → StateValue → Type 0
    BareAt = Bare def_slot

    abbrev FullAt : Bool → ℕ → List Place → InstRegs → StateValue → Type 0
    FullAt = Full def_slot

    by_itself : CarriesByItself code i old new
    by_itself = carries_by_itself code i blank here old new lt at b a

    begun : BareAt true 0 blank a.quiet a.after_clobbers
    begun = ready_for_operands (tail_of Known (inst_at f) placesf i 0 (λ w p. ⊥)) (inst_at f i) blank here old new (orderly i lt) (avoids i lt)
        (λ e. absurd (let y : true ≡ false = sym e ∙ plain in cc))
        (record {
          whole = b.whole;
          later = b.later;
          claims = λ w known. carried_nil code (λ u p. ⊥) (i + 1) old
              (Needed (λ x. false) old) (λ u p h. absurd h) w;
          fit = b.fit;
          apart = b.apart;
        }) a

    -- no move after it goes to the slot before its operands are allocated
    no_moves : NoMoveTo (InSlot n) []
    unfolding Untouched with_moves
    no_moves = tt

    none_old : NoMoveTo (InSlot n) (at_point (listed old.edits) (after i))
    none_old =
        let e : 2 * (i + 1) ≡ suc (2 * i + 1) = omega arith in
        subst (NoMoveTo (InSlot n)) (sym (at_point-none (after i) (listed old.edits) (subst (λ (m : ℕ). AllFrom m (listed old.edits)) e b.later))) no_moves

    abbrev in_slots : (r : Register) → InSlot n ≡ InRegister r → ⊥
    in_slots = slotted def_slot

    none_begun : NoMoveTo (InSlot n) (at_point (listed a.after_clobbers.edits) (after i))
    none_begun = off_none (InSlot n) in_slots (after i) old.edits a.after_clobbers.edits
        (appends_edits_trans (Off (InSlot n) in_slots) old.edits a.prepares.middle.edits a.after_clobbers.edits
        (evicts_fixed_off (InSlot n) in_slots (after i) ops a.prepares.held old (length ops) a.prepares.cleared a.prepares.middle a.prepares.fixed)
        (evicts_each_off (InSlot n) in_slots (after i) (registers_of (inst_at f i).clobbers) a.prepares.cleared a.prepares.middle a.quiet a.after_clobbers
        a.prepares.emptied)) none_old

    -- the steps after its operands
    grown_moved : Grown AnyPlace a.after_early new
    grown_moved = changes_grow AnyPlace (moves_uses_changes (λ q r. tt) (λ j lt reads q. tt) a.moves)

    grown_early : Grown AnyPlace a.after_late new
    grown_early = grown_then AnyPlace a.after_late a.after_early new
        (changes_grow AnyPlace (processes_operands_at_changes (λ p q. tt) (λ j lt at. free_operand _) a.earlies)) grown_moved

    late_done : BareAt true (length ops) a.half a.late a.after_late
    late_done = laid_all (asks_nowhere def_slot) true blank a.quiet
        a.after_clobbers (length ops) a.half a.late a.after_late a.lates (omega arith) begun

    early_begun : BareAt false 0 a.half a.late a.after_late
    early_begun = laid_over (asks_nowhere def_slot) a.half a.late a.after_late
        late_done

    early_done : BareAt false (length ops) here a.early a.after_early
    early_done = laid_all (asks_nowhere def_slot) false a.half a.late a.after_late
        (length ops) here a.early a.after_early a.earlies (omega arith) early_begun

    -- if the definition is late
    all_late : is_late (op_at ops d).position ≡ true → FullAt false (length ops) here a.early a.after_early
    all_late late =
        let gone : late_done.out v.number ≡ true = late_done.ready.located.placed.outs d (late_done.all d (within, inl def) (inl (late, within))) def in
        let absent : Absent v.number a.after_late = whole_absent v.number a.after_late late_done.ready.located.whole
        (opt_none (place_in a.after_late v.number) (late_done.ready.located.placed.gone v.number gone)) in
        let stays = out_then v.number a.after_late a.after_early new
        (processes_operands_at_out v.number (length ops) (omega arith)
        (λ k few c e. other_number def_slot new
        by_itself.between.whole mine k (λ same. let y : true ≡ false = sym late ∙ ap (λ (m : ℕ). is_late (op_at ops m).position) (sym same) ∙ e in cc) c)
        a.earlies (omega arith))
        (changes_out v.number (moves_uses_changes (λ q r. tt) (λ j lt reads q. tt) a.moves)) absent in
        laid_all (asks_value def_slot) false a.half a.late a.after_late (length ops) here a.early a.after_early a.earlies
        (omega arith)
        (laid_over (asks_value def_slot) a.half a.late a.after_late
        (pass_into def_slot new by_itself.between.whole mine late none_begun begun a.lates (omega arith) within grown_early
        (sym stays.1 ∙ mine)))

    -- if the definition is early
    all_early : is_late (op_at ops d).position ≡ false → FullAt false (length ops) here a.early a.after_early
    all_early early =
        let gone : early_done.out v.number ≡ true = early_done.ready.located.placed.outs d (early_done.all d (within, inl def) (inr (refl, inr within))) def in
        let absent : Absent v.number a.after_early = whole_absent v.number a.after_early early_done.ready.located.whole
        (opt_none (place_in a.after_early v.number) (early_done.ready.located.placed.gone v.number gone)) in
        let stays = changes_out v.number (moves_uses_changes (λ q r. tt) (λ j lt reads q. tt) a.moves) absent in
        let quiet : NoMoveTo (InSlot n) (at_point (listed a.after_late.edits) (after i)) = off_none (InSlot n) in_slots (after i) a.after_clobbers.edits
        a.after_late.edits
        (before_off def_slot new by_itself.between.whole
        mine a.lates (omega arith)
        (λ less e. let y : true ≡ false = sym e ∙ early in cc) begun grown_early) none_begun in
        pass_into def_slot new by_itself.between.whole mine early quiet early_begun a.earlies (omega arith) within grown_moved
        (sym stays.1 ∙ mine)

    all_placed : FullAt false (length ops) here a.early a.after_early
    all_placed = elim (cases_Bool (is_late (op_at ops d).position)) [ inl late ↦ all_late late | inr early ↦ all_early early ]

    -- wherever the vreg was before it, the slot holds the value after it
    pub stores : Carries v (walked (inst_at f) (at_point (listed new.edits)) placesf i 1) (λ p. ⊥) (λ p. p ≡ InSlot n)
    stores =
        let E : VirtualRegister → Place → Type 0 = Into def_slot in
        let is : defined_by ops v.number ≡ true = defined_by-at ops d within def in
        let nowhere : location_at new v.number ≡ None = by_itself.ends.gone v.number is in
        let c : CarriedBut Known (inst_at f) placesf E (defined_by ops) i 1 new =
        listing_carries (tail_of Known (inst_at f) placesf i 0 E) (lives_in old) (ends_block (inst_at f i)) here a.early a.ended a.after_early new (orderly i lt)
        (knows i lt) at all_placed a.moves in
        carries_weaken v (walked (inst_at f) (at_point (listed new.edits)) placesf i 1)
        (Need (lives_in new) (defined_by ops) (λ p x. false) (location_at new) (slots_at new) v.number) (λ p. ⊥) (E v) (λ p. p ≡ InSlot n)
        (λ p y. elim y [
          | located l e ↦ (let z : None ≡ Some p = sym nowhere ∙ e in cc)
          | in_slot o e ↦ (let z : true ≡ false = sym is ∙ o in cc)
          | made m ↦ (let z : false ≡ true = m in cc)
        ])
        (λ p e. (refl, e)) (c.claims v ((knows i lt).definition d within def))
