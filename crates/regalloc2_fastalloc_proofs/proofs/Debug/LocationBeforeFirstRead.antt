-- A vreg with no location after an instruction that reads it is, before it, in the place of the operand that is
-- allocated first, or has a slot.
-- The fold in `Changes` of regalloc2_fastalloc_proofs doesn't apply: an operand's place is passed from its selection to
-- the steps that follow.
use Rattle.std.proofs.Common.{ℕ, ◌≡◌, ◌≢◌, ◌<◌, ◌≤◌, ◌⊎◌, inl, inr, Bool, true, false, List, length, refl, sym, ap, ◌∙◌, subst, arith}
use Rattle.std.specs.Prelude.{slice_index_or, slice_set}
use Rattle.std.proofs.lemmas.Bool.{cases_eq}
use Rattle.std.proofs.lemmas.List.{get_or-set_same, get_or-set_other, length-set}
use Rattle.regalloc2_names.specs.declared.OperandConstraint.TheVariants.{Reuse}
use Rattle.regalloc2_names.specs.Operand.{OperandValue, is_def, is_late, is_reading}
use Rattle.regalloc2_names.specs.Place.{Place, NoPlace, InRegister}
use Rattle.regalloc2_function.specs.FunctionValue.{InstValue, op_at}
use Rattle.regalloc2_carry.specs.OperandsPlaced.{Counts}
use Rattle.regalloc2_carry.proofs.Operands.{reads_use}
use Rattle.regalloc2_fastalloc_state.specs.StateParts.{alloc_of}
use Rattle.regalloc2_fastalloc_state.specs.declared.inst_regs.InstRegs.{InstRegs}
use Rattle.regalloc2_fastalloc_proofs.specs.InstSteps.{StateValue, use_request, LocatesUse, ProcessesOperand, a_register, a_use, a_def, a_reuse, ends_block}
use Rattle.regalloc2_fastalloc_proofs.specs.InstSteps.{ProcessesOperandsAt, none_placed, of_other, one_placed, AllocsInst}
use Rattle.regalloc2_fastalloc_proofs.specs.InstSteps.LocatesUse.{stays as use_stays, located}
use Rattle.regalloc2_fastalloc_proofs.proofs.Safety.StepsKeepState.{place_in, slot_in}
use Rattle.regalloc2_fastalloc_proofs.proofs.Operands.RecordOfInst.{Orderly}
use Rattle.regalloc2_fastalloc_proofs.proofs.Operands.UsesAndPlainDefs.{reads_no_fixed, use_number}
use Rattle.regalloc2_fastalloc_proofs.specs.Located.{Absent}
use Rattle.regalloc2_fastalloc_proofs.proofs.Debug.UnnamedStaysUnlocated.{out_then, changes_absent, changes_out, processes_operands_at_out}
use Rattle.regalloc2_fastalloc_proofs.proofs.Debug.LocatedStaysOrHasSlot.{StaysOrHasSlot, changes_hold, processes_operand_hold}
use Rattle.regalloc2_fastalloc_proofs.proofs.Changes.InstChanges.{allocs_operand_changes, moves_uses_changes, evicts_fixed_changes, evicts_each_changes}

-- the operand that is allocated first of those that name a number: a late one before an early one, and by their order
pub data ComesFirst (ops : List OperandValue) (x k : ℕ) : Type 0 where
  late_first : is_late (op_at ops k).position ≡ true → ((j : ℕ) → j < k → Counts ops j → is_late (op_at ops j).position ≡ true →
      (op_at ops j).vreg.number ≢ x) → ComesFirst ops x k
  early_first : is_late (op_at ops k).position ≡ false → ((j : ℕ) → j < length ops → Counts ops j → is_late (op_at ops j).position ≡ true →
      (op_at ops j).vreg.number ≢ x)
      → ((j : ℕ) → j < k → Counts ops j → is_late (op_at ops j).position ≡ false → (op_at ops j).vreg.number ≢ x) → ComesFirst ops x k

-- the list of places keeps its length
processes_operands_at_long : (i : ℕ) (ends_block late : Bool) (ops : List OperandValue) (here : List Place) (t : InstRegs) (old : StateValue) (k : ℕ)
    (list : List Place)
    (u : InstRegs) (m : StateValue) → ProcessesOperandsAt i ends_block late ops here t old k list u m → length list ≡ length here
processes_operands_at_long i ends_block late ops here t old k list u m none_placed = refl
processes_operands_at_long i ends_block late ops here t old k list u m (of_other j l w s prev other) = processes_operands_at_long i ends_block late ops here t old j list u
    m prev
processes_operands_at_long i ends_block late ops here t old k list u m (one_placed j l next w y s z prev inst_regs one) = by_one one
    ∙ processes_operands_at_long i ends_block late ops here t old j l w s prev
  where
    by_one : ProcessesOperand i ends_block ops j l list w u s m → length list ≡ length l
    by_one (a_register r f c e eu en) = ap (λ (q : List Place). length q) e ∙ length-set l j (InRegister r)
    by_one (a_use p reads d e) = ap (λ (q : List Place). length q) e ∙ length-set l j p
    by_one (a_def p def plain d e) = ap (λ (q : List Place). length q) e ∙ length-set l j p
    by_one (a_reuse n p def reuses d e) = ap (λ (q : List Place). length q) e ∙ length-set (slice_set l j p) n p ∙ length-set l j p

module _ (i : ℕ) (ends_block : Bool) (ops : List OperandValue) (orderly : Orderly ops) (x k : ℕ) (within : k < length ops) (reads : is_reading (op_at ops k) ≡ true)
    (is : (op_at ops k).vreg.number ≡ x) where
  undefined : (j : ℕ) → j < length ops → is_def (op_at ops j).kind ≡ true → x ≢ (op_at ops j).vreg.number
  undefined j less def e = orderly.once.unread j k (less, inl def) (within, inr reads) def (reads_use (op_at ops k) reads) (sym e ∙ sym is)

  -- another operand leaves its place
  list_same : (j : ℕ) (here there : List Place) (t u : InstRegs) (old new : StateValue) → ProcessesOperand i ends_block ops j here there t u old new → j ≢ k →
      ((m : ℕ) → (op_at ops j).constraint ≡ Reuse m → m ≢ k) →
      slice_index_or there k NoPlace ≡ slice_index_or here k NoPlace
  list_same j here there t u old new (a_register r f c e eu en) ne named = ap (λ (q : List Place). slice_index_or q k NoPlace) e
      ∙ get_or-set_other here j k (InRegister r) NoPlace (λ z. ne (sym z))
  list_same j here there t u old new (a_use p rd d e) ne named = ap (λ (q : List Place). slice_index_or q k NoPlace) e
      ∙ get_or-set_other here j k p NoPlace (λ z. ne (sym z))
  list_same j here there t u old new (a_def p def plain d e) ne named = ap (λ (q : List Place). slice_index_or q k NoPlace) e
      ∙ get_or-set_other here j k p NoPlace (λ z. ne (sym z))
  list_same j here there t u old new (a_reuse n p def reuses d e) ne named =
      ap (λ (q : List Place). slice_index_or q k NoPlace) e ∙ get_or-set_other (slice_set here j p) n k p NoPlace (λ z. named n reuses (sym z))
      ∙ get_or-set_other here j k p NoPlace (λ z. ne (sym z))

  -- an operand that a reuse names, where the reuse is allocated in the same pass or in the later one
  not_named : (late : Bool) (j : ℕ) → j < length ops → is_late (op_at ops j).position ≡ late → (late ≡ true → is_late (op_at ops k).position ≡ true) → (m : ℕ) →
      (op_at ops j).constraint ≡ Reuse m → m ≢ k
  not_named true j less inst_regs of_late m reuse e = (let a = (orderly.named j m less reuse).2 in
      let b : is_late (op_at ops m).position ≡ true = ap (λ (z : ℕ). is_late (op_at ops z).position) e ∙ of_late refl in cc)
  not_named false j less inst_regs of_late m reuse e = (let a = (orderly.late_reuse j m less reuse).1 in cc)

  -- the location of x is its operand's place, or x has a slot
  abbrev At : StateValue → List Place → Type 0
  At m list = (place_in m x ≡ slice_index_or list k NoPlace) ⊎ (slot_in m x ≢ NoPlace)

  -- the operand's turn
  turn_at : (here there : List Place) (t u : InstRegs) (old new : StateValue) → k < length here → Absent x old →
      ProcessesOperand i ends_block ops k here there t u old new → place_in new x ≡ slice_index_or there k NoPlace
  turn_at here there t u old new less absent (a_register r f c e eu en) = absurd (reads_no_fixed (op_at ops k) reads f)
  turn_at here there t u old new less absent (a_def p def plain d e) = absurd (let z = reads_use (op_at ops k) reads in cc)
  turn_at here there t u old new less absent (a_reuse n p def reuses d e) = absurd (let z = reads_use (op_at ops k) reads in cc)
  turn_at here there t u old new less absent (a_use p rd d e) = used d.uses
      ∙ sym (ap (λ (q : List Place). slice_index_or q k NoPlace) e ∙ get_or-set_same here k p NoPlace less)
    where
      number : (use_request (op_at ops k) (slice_index_or here k NoPlace)).vreg.number ≡ x
      number = use_number (op_at ops k) (slice_index_or here k NoPlace) ∙ is

      used : LocatesUse (use_request (op_at ops k) (slice_index_or here k NoPlace)).vreg p d.middle new → place_in new x ≡ p
      used (use_stays there_it en) = absurd (there_it (ap (alloc_of d.middle.places) number
          ∙ (changes_absent x (allocs_operand_changes (λ q r. tt) tt d.gets) absent).nowhere))
      used (located none sets_alloc slots edits machine order) = ap (alloc_of new.places) (sym number) ∙ sets_alloc.here

  -- one operand more keeps the location
  hold_one : (j : ℕ) (here there : List Place) (t u : InstRegs) (old new : StateValue) → j < length ops → ProcessesOperand i ends_block ops j here there t u old new →
      slice_index_or there k NoPlace ≡ slice_index_or here k NoPlace → slice_index_or there k NoPlace ≢ NoPlace → At old here → At new there
  hold_one j here there t u old new less one same real at = elim at [
    | inl e ↦ elim (h.same (λ z. real (same ∙ sym e ∙ z))) [ inl d ↦ inl (d ∙ e ∙ sym same) | inr s ↦ inr s ]
    | inr s ↦ inr (h.slots s)
  ]
    where
      h : StaysOrHasSlot x old new
      h = processes_operand_hold x i ends_block ops j here there t u old new (undefined j less) one

  -- once it is allocated
  pass_at : (late : Bool) (here : List Place) (t : InstRegs) (old : StateValue) → is_late (op_at ops k).position ≡ late → length here ≡ length ops
      → Absent x old
      → ((j : ℕ) → j < k → Counts ops j → is_late (op_at ops j).position ≡ late → (op_at ops j).vreg.number ≢ x)
      → (n : ℕ) (list : List Place) (u : InstRegs) (m : StateValue) → ProcessesOperandsAt i ends_block late ops here t old n list u m → n ≤ length ops → k < n →
      slice_index_or list k NoPlace ≢ NoPlace → At m list
  pass_at late here t old of_pass long absent first n list u m none_placed = λ le lt real. absurd (omega (arith, lt))
  pass_at late here t old of_pass long absent first n list u m (of_other j l w s prev other) = λ le lt real.
      let ne : k ≢ j = λ e. other (ap (λ (z : ℕ). is_late (op_at ops z).position) (sym e) ∙ of_pass) in
      pass_at late here t old of_pass long absent first j list u m prev (omega (arith, le)) (omega (arith, lt, ne)) real
  pass_at late here t old of_pass long absent first n list u m (one_placed j l next w y s z prev inst_regs one) = λ le lt real. elim (cases_eq j k) [
    | inl e ↦ (
        let there = (processes_operands_at_out x k (omega (arith, within)) first prev (omega (arith, e))) absent in
        let less : k < length l = (let q = processes_operands_at_long i ends_block late ops here t old j l w s prev in omega (arith, q, long, within)) in
        inl (turn_at l list w u s m less there.0 (subst (λ (z : ℕ). ProcessesOperand i ends_block ops z l list w u s m) e one)))
    | inr ne ↦ (
        let less : j < length ops = omega (arith, le) in
        let same : slice_index_or list k NoPlace ≡ slice_index_or l k NoPlace = list_same j l list w u s m one ne
        (not_named late j less inst_regs (λ e. of_pass ∙ e)) in
        hold_one j l list w u s m less one same real
        (pass_at late here t old of_pass long absent first j l w s prev (omega (arith, le)) (omega (arith, lt, ne)) (λ q. real (same ∙ q))))
  ]

  -- the pass over early operands, if it was allocated before
  over_list : (of_late : is_late (op_at ops k).position ≡ true) (here : List Place) (t : InstRegs) (old : StateValue) (n : ℕ) (list : List Place) (u : InstRegs)
      (m : StateValue) → ProcessesOperandsAt i ends_block false ops here t old n list u m → n ≤ length ops →
      slice_index_or list k NoPlace ≡ slice_index_or here k NoPlace
  over_list of_late here t old n list u m none_placed le = refl
  over_list of_late here t old n list u m (of_other j l w s prev other) le = over_list of_late here t old j list u m prev (omega (arith, le))
  over_list of_late here t old n list u m (one_placed j l next w y s z prev inst_regs one) le =
      let ne : j ≢ k = λ e. (let q : true ≡ false = sym of_late ∙ ap (λ (b : ℕ). is_late (op_at ops b).position) (sym e) ∙ inst_regs in cc) in
      list_same j l list w u s m one ne (not_named false j (omega (arith, le)) inst_regs (λ e. of_late))
      ∙ over_list of_late here t old j l w s prev (omega (arith, le))

  over_at : (of_late : is_late (op_at ops k).position ≡ true) (here : List Place) (t : InstRegs) (old : StateValue) → At old here →
      (n : ℕ) (list : List Place) (u : InstRegs) (m : StateValue) → ProcessesOperandsAt i ends_block false ops here t old n list u m → n ≤ length ops →
      slice_index_or list k NoPlace ≢ NoPlace → At m list
  over_at of_late here t old at n list u m none_placed le real = at
  over_at of_late here t old at n list u m (of_other j l w s prev other) le real = over_at of_late here t old at j list u m prev (omega (arith, le)) real
  over_at of_late here t old at n list u m (one_placed j l next w y s z prev inst_regs one) le real =
      let ne : j ≢ k = λ e. (let q : true ≡ false = sym of_late ∙ ap (λ (b : ℕ). is_late (op_at ops b).position) (sym e) ∙ inst_regs in cc) in
      let less : j < length ops = omega (arith, le) in
      let same : slice_index_or list k NoPlace ≡ slice_index_or l k NoPlace = list_same j l list w u s m one ne
      (not_named false j less inst_regs (λ e. of_late)) in
      hold_one j l list w u s m less one same real (over_at of_late here t old at j l w s prev (omega (arith, le)) (λ q. real (same ∙ q)))

-- the instruction
pub read_location : (i : ℕ) (inst : InstValue) (blank here : List Place) (old new : StateValue) → Orderly inst.operands → (x k : ℕ) → k < length inst.operands →
    is_reading (op_at inst.operands k) ≡ true → (op_at inst.operands k).vreg.number ≡ x → ComesFirst inst.operands x k →
    AllocsInst i inst blank here old new → Absent x old → slice_index_or here k NoPlace ≢ NoPlace → (place_in new x ≡ slice_index_or here k NoPlace)
    ⊎ (slot_in new x ≢ NoPlace)
read_location i inst blank here old new orderly x k within reads is first a absent real =
    let ops : List OperandValue = inst.operands in
    let n : ℕ = length ops in
    let quiet = out_then x old a.prepares.middle a.after_clobbers (changes_out x (evicts_fixed_changes (λ q r. tt) a.prepares.fixed))
    (changes_out x (evicts_each_changes (λ q r. tt) a.prepares.emptied)) absent in
    elim (by_first first quiet.0) [
      | inl e ↦ elim ((changes_hold x (moves_uses_changes (λ q r. tt) (λ j lt reads q. tt) a.moves)).same (λ z. real (sym e ∙ z)))
          [ inl d ↦ inl (d ∙ e) | inr s ↦ inr s ]
      | inr s ↦ inr ((changes_hold x (moves_uses_changes (λ q r. tt) (λ j lt reads q. tt) a.moves)).slots s)
    ]
  where
    long_half : length a.half ≡ length inst.operands
    long_half = processes_operands_at_long i (ends_block inst) true inst.operands blank a.quiet a.after_clobbers (length inst.operands) a.half a.late
        a.after_late a.lates
        ∙ a.long

    by_first : ComesFirst inst.operands x k → Absent x a.after_clobbers → (place_in a.after_early x ≡ slice_index_or here k NoPlace)
        ⊎ (slot_in a.after_early x ≢ NoPlace)
    by_first (late_first of_late sooner) b =
        let same = over_list i (ends_block inst) inst.operands orderly x k within reads is of_late a.half a.late a.after_late
        (length inst.operands) here a.early
        a.after_early a.earlies (omega arith) in
        over_at i (ends_block inst) inst.operands orderly x k within reads is of_late a.half a.late a.after_late
        (pass_at i (ends_block inst) inst.operands orderly x k within reads is true blank a.quiet a.after_clobbers of_late a.long b sooner
        (length inst.operands)
        a.half a.late a.after_late a.lates (omega arith) within (λ z. real (same ∙ z)))
        (length inst.operands) here a.early a.after_early a.earlies (omega arith) real
    by_first (early_first of_early no_late sooner) b =
        let c = processes_operands_at_out x (length inst.operands) (omega arith) no_late a.lates (omega arith) b in
        pass_at i (ends_block inst) inst.operands orderly x k within reads is false a.half a.late a.after_late of_early long_half c.0 sooner
        (length inst.operands)
        here a.early a.after_early a.earlies (omega arith) within real
