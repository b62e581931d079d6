-- A number that has no location, and that nothing in the walked part names, stays without a location, and its slot
-- stays.
use Rattle.std.proofs.Common.{ℕ, ◌≡◌, ◌≢◌, ◌<◌, ◌≤◌, inl, inr, Bool, true, List, length, refl, sym, ap, ◌∙◌, arith}
use Rattle.std.specs.Prelude.{None, Some, slice_index_or}
use Rattle.regalloc2_names.specs.Register.{VirtualRegister, no_vreg}
use Rattle.regalloc2_names.specs.Operand.{OperandValue, is_late}
use Rattle.regalloc2_names.specs.Place.{Place, NoPlace, InRegister}
use Rattle.regalloc2_function.specs.FunctionValue.{FunctionValue, block_at, inst_at, op_at}
use Rattle.regalloc2_semantics.specs.Runs.{arguments_at}
use Rattle.regalloc2_semantics.specs.Sound.{target_at}
use Rattle.regalloc2_analysis.specs.BranchDefs.BranchDefs.{IsEdgeInto}
use Rattle.regalloc2_carry.specs.OperandsPlaced.{Counts}
use Rattle.regalloc2_fastalloc_state.specs.StateParts.{VRegAllocsValue, SpillSlotsValue, SetsAlloc, GetsSpillSlot, alloc_of, vreg_of_preg, slot_name}
use Rattle.regalloc2_fastalloc_state.specs.declared.inst_regs.InstRegs.{InstRegs}
use Rattle.regalloc2_fastalloc_proofs.specs.InstSteps.{StateValue, FreesAlloc, ProcessesOperand, ProcessesOperandsAt}
use Rattle.regalloc2_fastalloc_proofs.specs.StoreSteps.{IsConcerned}
use Rattle.regalloc2_fastalloc_proofs.specs.BlockSteps.{AllocsInstInBlock, BeginsBlock}
use Rattle.regalloc2_fastalloc_proofs.specs.Located.{Absent}
use Rattle.regalloc2_fastalloc_proofs.proofs.Evictions.PushedAndRemoved.{sets_alloc_empties}
use Rattle.regalloc2_fastalloc_proofs.specs.Safety.{IsWhole}
use Rattle.regalloc2_fastalloc_proofs.proofs.Safety.StepsKeepSafe.{holder_after_set_alloc}
use Rattle.regalloc2_fastalloc_proofs.proofs.Changes.OneChange.{Act, slot_for, spill_of, end_of, start_of, move, Change, evicted, slot_given, spilled}
use Rattle.regalloc2_fastalloc_proofs.proofs.Changes.OneChange.{param_left, def_left, use_located, edits_pushed, temps_added, registers_used, Changes}
use Rattle.regalloc2_fastalloc_proofs.proofs.Changes.OneChange.{changes_keep, change_weaken}
use Rattle.regalloc2_fastalloc_proofs.proofs.Changes.InstChanges.{MayBePlaced, processes_operand_changes, processes_operands_at_changes}
use Rattle.regalloc2_fastalloc_proofs.proofs.Changes.WalkChanges.{allocs_inst_in_block_changes, begins_block_changes}

module _ (x : ℕ) where
  -- the number is still absent, and its slot is unchanged
  abbrev pub StaysOut : StateValue → StateValue → Type 0
  StaysOut old new = Absent x old → Absent x new × (slot_name new.slots x ≡ slot_name old.slots x)

  -- vregs other than x
  abbrev pub Other : VirtualRegister → Type 0
  Other v = v.number ≢ x

  -- changes that don't give x a location
  abbrev pub SetsOthers : Act → Type 0
  SetsOthers (slot_for v) = Unit {0}
  SetsOthers (spill_of v) = Other v
  SetsOthers (end_of v) = Other v
  SetsOthers (start_of v p) = Other v
  SetsOthers (move e) = Unit {0}

  -- changes that don't give x a slot
  abbrev pub Names : Act → Type 0
  Names (slot_for v) = Other v
  Names (spill_of v) = Other v
  Names (end_of v) = Other v
  Names (start_of v p) = Other v
  Names (move e) = Unit {0}

  names_set : (a : Act) → Names a → SetsOthers a
  names_set (slot_for v) h = tt
  names_set (spill_of v) h = h
  names_set (end_of v) h = h
  names_set (start_of v p) h = h
  names_set (move e) h = tt

  -- locations stay
  absent_still : (old new : StateValue) → new.places ≡ old.places → Absent x old → Absent x new
  absent_still old new places a = record {
    nowhere = ap (λ (p : VRegAllocsValue). alloc_of p x) places ∙ a.nowhere;
    unheld = λ r v small held. a.unheld r v small (ap (λ (p : VRegAllocsValue). vreg_of_preg p r) (sym places) ∙ held);
  }

  -- another one's location is set
  absent_after_set_alloc : (old new : StateValue) (v : VirtualRegister) (p : Place) → SetsAlloc old.places new.places v p → Other v → Absent x old → Absent x new
  absent_after_set_alloc old new v p z ne a = record {
    nowhere = z.others x (λ e. ne (sym e)) ∙ a.nowhere;
    unheld = λ r w small held. elim (holder_after_set_alloc old.places new.places v w p r small z held) [
      | inl y ↦ (λ e. ne (ap (λ (u : VirtualRegister). u.number) y.1 ∙ e))
      | inr h ↦ a.unheld r w small h
    ];
  }

  -- any change that doesn't give it a location keeps it absent
  one_absent : (old new : StateValue) → Change SetsOthers old new → Absent x old → Absent x new
  one_absent old new (evicted r v s lt held gives sets_alloc edits machine) a = absent_after_set_alloc old new v s sets_alloc (a.unheld r v lt held) a
  one_absent old new (slot_given v s may gives places edits machine) a = absent_still old new places a
  one_absent old new (spilled v s may away gives sets_alloc edits machine) a = absent_after_set_alloc old new v s sets_alloc may a
  one_absent old new (param_left v s may there gives sets_alloc edits machine) a = absent_after_set_alloc old new v NoPlace sets_alloc may a
  one_absent old new (def_left v may sets_alloc slots edits machine) a = absent_after_set_alloc old new v NoPlace sets_alloc may a
  one_absent old new (use_located v p may nowhere sets_alloc slots edits machine) a = absent_after_set_alloc old new v p sets_alloc may a
  one_absent old new (edits_pushed es all e) a = absent_still old new (ap (λ (t : StateValue). t.places) e) a
  one_absent old new (temps_added inst_regs class given made o) a = absent_still old new o.places a
  one_absent old new (registers_used e) a = absent_still old new (ap (λ (t : StateValue). t.places) e) a

  other_slot : (old new : SpillSlotsValue) (v : VirtualRegister) (s : Place) → GetsSpillSlot old new v s → Other v → slot_name new x ≡ slot_name old x
  other_slot old new v s g ne = g.others x (λ e. ne (sym e))

  -- x keeps its slot over a change that doesn't give it one
  one_slot : (old new : StateValue) → Change Names old new → Absent x old → slot_name new.slots x ≡ slot_name old.slots x
  one_slot old new (evicted r v s lt held gives sets_alloc edits machine) a = other_slot old.slots new.slots v s gives (a.unheld r v lt held)
  one_slot old new (slot_given v s may gives places edits machine) a = other_slot old.slots new.slots v s gives may
  one_slot old new (spilled v s may away gives sets_alloc edits machine) a = other_slot old.slots new.slots v s gives may
  one_slot old new (param_left v s may there gives sets_alloc edits machine) a = other_slot old.slots new.slots v s gives may
  one_slot old new (def_left v may sets_alloc slots edits machine) a = ap (λ (s : SpillSlotsValue). slot_name s x) slots
  one_slot old new (use_located v p may nowhere sets_alloc slots edits machine) a = ap (λ (s : SpillSlotsValue). slot_name s x) slots
  one_slot old new (edits_pushed es all e) a = ap (λ (t : StateValue). slot_name t.slots x) e
  one_slot old new (temps_added inst_regs class given made o) a = ap (λ (l : List Place). slice_index_or l x NoPlace) o.lends.2.vreg_spillslots
  one_slot old new (registers_used e) a = ap (λ (t : StateValue). slot_name t.slots x) e

  pub changes_absent : {old new : StateValue} → Changes SetsOthers old new → Absent x old → Absent x new
  changes_absent = changes_keep (record { same = λ t a. a; over = λ a b c f g h. g (f h); each = one_absent })

  -- two steps keep x absent if each does
  pub out_then : (a b c : StateValue) → StaysOut a b → StaysOut b c → StaysOut a c
  out_then a b c f g h = (let p = f h in let q = g p.0 in (q.0, q.1 ∙ p.1))

  pub changes_out : {old new : StateValue} → Changes Names old new → StaysOut old new
  changes_out = changes_keep (record {
    same = λ t a. (a, refl);
    over = out_then;
    each = λ old new c a. (one_absent old new (change_weaken Names SetsOthers names_set old new c) a, one_slot old new c a);
  })

  other_placed : (ops : List OperandValue) (k : ℕ) → k < length ops → (Counts ops k → Other (op_at ops k).vreg) → MayBePlaced Names (op_at ops k)
  other_placed ops k lt ne = record { gets = λ h. ne (lt, h); ends = λ h. ne (lt, inl h); starts = λ h p. ne (lt, inr h) }

  -- the first operands of a pass
  pub processes_operands_at_out : {i : ℕ} {ends_block late : Bool} {ops : List OperandValue} {places : List Place} {t : InstRegs} {old : StateValue} (most : ℕ) →
      most ≤ length ops
      → ((k : ℕ) → k < most → Counts ops k → is_late (op_at ops k).position ≡ late → (op_at ops k).vreg.number ≢ x)
      → {k : ℕ} {next : List Place} {u : InstRegs} {m : StateValue} → ProcessesOperandsAt i ends_block late ops places t old k next u m → k ≤ most → StaysOut old m
  processes_operands_at_out {ops} most few ne h le = changes_out (processes_operands_at_changes (λ p q. tt)
      (λ j lt at. other_placed ops j (omega (arith, lt, le, few)) (λ c. ne j (omega (arith, lt, le)) c at)) h)

  -- no parameter or argument of the edges out of a block has the number
  abbrev pub IsUnpassed : FunctionValue → ℕ → Type 0
  IsUnpassed f b = (k : ℕ) → k < length (block_at f b).succs → (j : ℕ) → j < length (block_at f (target_at f b k)).params →
      ((slice_index_or (block_at f (target_at f b k)).params j no_vreg).number ≢ x) × ((slice_index_or (arguments_at f b k) j no_vreg).number ≢ x)

  -- no store of a block's start is for the number
  abbrev pub IsUnstored : FunctionValue → ℕ → Type 0
  IsUnstored f b = (e k : ℕ) (v : VirtualRegister) → IsEdgeInto f b e k → IsConcerned f e k v → v.number ≢ x

  pub begins_block_out : (f : FunctionValue) (b : ℕ) (old new : StateValue) →
      ((k : ℕ) → k < length (block_at f b).params → (slice_index_or (block_at f b).params k no_vreg).number ≢ x) → IsUnstored f b → BeginsBlock f b old new
      → StaysOut old new
  begins_block_out f b old new ne unstored h =
      changes_out (begins_block_changes (record { moves = λ p q. tt; params = ne; stored = λ e k v edge is. unstored e k v edge is }) h)

  -- x stays absent over a block's start, whatever is stored
  pub begins_block_absent : (f : FunctionValue) (b : ℕ) (old new : StateValue) →
      ((k : ℕ) → k < length (block_at f b).params → (slice_index_or (block_at f b).params k no_vreg).number ≢ x) → BeginsBlock f b old new → Absent x old
      → Absent x new
  begins_block_absent f b old new ne h = changes_absent (begins_block_changes (record { moves = λ p q. tt; params = ne; stored = λ e k v edge is. tt }) h)

  -- an instruction of a block, and what a branch passes
  pub allocs_inst_in_block_out : (f : FunctionValue) (b i : ℕ) (before_it places : List Place) (old new : StateValue) →
      ((k : ℕ) → Counts (inst_at f i).operands k → (op_at (inst_at f i).operands k).vreg.number ≢ x) →
      ((inst_at f i).is_branch ≡ true → IsUnpassed f b) → AllocsInstInBlock f b i before_it places old new → StaysOut old new
  allocs_inst_in_block_out f b i before_it places old new ne unpassed a = changes_out (allocs_inst_in_block_changes (record {
    behind = λ p q. tt;
    ahead = λ p q. tt;
    operands = λ k lt. other_placed (inst_at f i).operands k lt (ne k);
    passes = λ is k lt j less. (let h = unpassed is k lt j less in record { target = h.0; source = h.1; spills = h.1 });
  }) a)

  -- an operand of another number is placed
  pub processes_operand_out : (i : ℕ) (ends_block : Bool) (ops : List OperandValue) (k : ℕ) (here there : List Place) (t u : InstRegs) (old new : StateValue) →
      k < length ops →
      (Counts ops k → (op_at ops k).vreg.number ≢ x) → ProcessesOperand i ends_block ops k here there t u old new → StaysOut old new
  processes_operand_out i ends_block ops k here there t u old new lt ne h = changes_out (processes_operand_changes (λ p q. tt) (other_placed ops k lt ne) h)

  -- a vreg that has no location in whole tables is absent
  pub whole_absent : (t : StateValue) → IsWhole t → alloc_of t.places x ≡ NoPlace → Absent x t
  whole_absent t w none = record {
    nowhere = none;
    unheld = λ r v small held e. (let y : NoPlace ≡ InRegister r = sym none ∙ ap (alloc_of t.places) (sym e) ∙ w.holds r v small held in cc);
  }

  -- a vreg that is defined is absent from then on
  pub defined_absent : (point : ℕ) (v : VirtualRegister) (ends_block : Bool) (p : Place) (t u : InstRegs) (old new : StateValue) → v.number ≡ x →
      (d : FreesAlloc point v ends_block p t u old new) → IsWhole old → Absent x d.left
  defined_absent point v ends_block p t u old new same d w = record {
    nowhere = ap (alloc_of d.left.places) (sym same) ∙ d.sets_alloc.here;
    unheld = λ r y small held e. elim (holder_after_set_alloc old.places d.left.places v y NoPlace r small d.sets_alloc held) [
      | inl a ↦ absurd (let z : NoPlace ≡ InRegister r = a.0 in cc)
      | inr h ↦ (
          let at : alloc_of old.places v.number ≡ InRegister r = ap (alloc_of old.places) (same ∙ sym e) ∙ w.holds r y small h in
          let none : vreg_of_preg d.left.places r ≡ None = sets_alloc_empties old.places d.left.places v NoPlace r small (λ z. cc) at d.sets_alloc in
          let z : None ≡ Some y = sym none ∙ held in absurd cc)
    ];
  }
