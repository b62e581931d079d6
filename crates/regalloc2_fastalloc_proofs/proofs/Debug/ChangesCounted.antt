-- What an instruction doesn't count: it defines no watched vreg, and the watched vregs that it reads had a location
-- before.
use Rattle.std.proofs.Common.{ℕ, ◌≡◌, ◌≢◌, ◌+◌, ◌-◌, ◌^◌, ◌<◌, ◌≤◌, ◌⊎◌, ◌&&◌, ◌||◌, inl, inr, Bool, true, false, List, length, refl, sym, ap, ◌∙◌, subst, arith, cond}
use Rattle.std.specs.Prelude.{min, slice_index_or}
use Rattle.std.proofs.lemmas.Bool.{cases_Bool, cases_eq}
use Rattle.std.proofs.Math.Nat.{min-eq_left, min-eq_right}
use Rattle.regalloc2_names.specs.Register.{VirtualRegister}
use Rattle.regalloc2_names.specs.Place.{after, Place, NoPlace, is_no_place}
use Rattle.regalloc2_names.specs.Operand.{OperandValue, is_def, is_fixed_nonallocatable, is_late, is_reading}
use Rattle.regalloc2_function.specs.FunctionValue.{FunctionValue, IsLimited, inst_at, op_at}
use Rattle.regalloc2_function.specs.Machine.{MachineValue}
use Rattle.regalloc2_function.specs.WellFormed.{IsWellFormed}
use Rattle.regalloc2_analysis.specs.LiveRanges.LiveRanges.{IsWanted}
use Rattle.regalloc2_analysis.specs.LiveRanges.WalkInvariant.{AddsNothing}
use Rattle.regalloc2_analysis.proofs.LiveRangesLemmas.UsesInSSA.{IsDefOperand-from_DefinesAt}
use Rattle.regalloc2_carry.proofs.Operands.{reads_use}
use Rattle.regalloc2_fastalloc_state.specs.StateParts.{VRegAllocsValue, SetsAlloc, alloc_of, count_after}
use Rattle.regalloc2_fastalloc_state.specs.declared.inst_regs.InstRegs.{InstRegs}
use Rattle.regalloc2_fastalloc_state.specs.declared.request.OperandRequest.{OperandRequest}
use Rattle.regalloc2_fastalloc_proofs.specs.InstSteps.{StateValue, FreesAlloc, LocatesUse, ProcessesOperand, a_register, a_use, a_def, a_reuse}
use Rattle.regalloc2_fastalloc_proofs.specs.InstSteps.{ProcessesOperandsAt, none_placed, of_other, one_placed, AllocsDefOp, ends_block, use_request}
use Rattle.regalloc2_fastalloc_proofs.specs.InstSteps.LocatesUse.{stays as use_stays, located}
use Rattle.regalloc2_fastalloc_proofs.specs.Located.{Absent, LocatedAreUsed}
use Rattle.regalloc2_fastalloc_proofs.specs.BlockSteps.{AllocsInstInBlock, AllocsBlockInsts, AllocsBlocks}
use Rattle.regalloc2_fastalloc_proofs.proofs.Operands.UsesAndPlainDefs.{reads_no_fixed, use_number}
use Rattle.regalloc2_fastalloc_proofs.proofs.Operands.WellFormedInsts.{orderly}
use Rattle.regalloc2_fastalloc_proofs.proofs.Changes.OneChange.{Change, evicted, slot_given, spilled, param_left, def_left, use_located, edits_pushed}
use Rattle.regalloc2_fastalloc_proofs.proofs.Changes.OneChange.{temps_added, registers_used, Anything, Changes, changes_keep, in_order}
use Rattle.regalloc2_fastalloc_proofs.proofs.Changes.InstChanges.{free_operand, adds_move_if_changes, allocs_operand_changes, evicts_each_changes}
use Rattle.regalloc2_fastalloc_proofs.proofs.Changes.InstChanges.{evicts_fixed_changes, moves_uses_changes, processes_operand_changes}
use Rattle.regalloc2_fastalloc_proofs.proofs.Changes.InstChanges.{processes_operands_at_changes}
use Rattle.regalloc2_fastalloc_proofs.proofs.Changes.WalkChanges.{any_passed, allocs_block_insts_changes, allocs_blocks_changes, free_begin, free_inst, processes_branch_changes}
use Rattle.regalloc2_fastalloc_proofs.proofs.Debug.LocatedVRegsAreUsed.{placed_elsewhere, stays_absent}

-- the count stays or rises, and rises; at its greatest value it may stay
abbrev greatest : ℕ
greatest = 2 ^ 64 - 1

abbrev Rises : ℕ → ℕ → Type 0
Rises a b = (a ≤ b) ⊎ (greatest ≤ b)

abbrev IsUp : ℕ → ℕ → Type 0
IsUp a b = (a < b) ⊎ (greatest ≤ b)

rises_trans : (a b c : ℕ) → Rises a b → Rises b c → Rises a c
rises_trans a b c (inl x) (inl y) = inl (omega (arith, x, y))
rises_trans a b c (inl x) (inr y) = inr y
rises_trans a b c (inr x) (inl y) = inr (omega (arith, x, y))
rises_trans a b c (inr x) (inr y) = inr y

up_rises_trans : (a b c : ℕ) → IsUp a b → Rises b c → IsUp a c
up_rises_trans a b c (inl x) (inl y) = inl (omega (arith, x, y))
up_rises_trans a b c (inl x) (inr y) = inr y
up_rises_trans a b c (inr x) (inl y) = inr (omega (arith, x, y))
up_rises_trans a b c (inr x) (inr y) = inr y

rises_up_trans : (a b c : ℕ) → Rises a b → IsUp b c → IsUp a c
rises_up_trans a b c (inl x) (inl y) = inl (omega (arith, x, y))
rises_up_trans a b c (inl x) (inr y) = inr y
rises_up_trans a b c (inr x) (inl y) = inr (omega (arith, x, y))
rises_up_trans a b c (inr x) (inr y) = inr y

up_rises : (a b : ℕ) → IsUp a b → Rises a b
up_rises a b (inl x) = inl (omega (arith, x))
up_rises a b (inr x) = inr x

-- a count rises by one, up to the greatest value
up_by_one : (n : ℕ) → IsUp n (min (n + 1) greatest)
up_by_one n = elim (cases_le (n + 1) greatest) [
  | inl le ↦ inl (let e = min-eq_left le in omega (arith, e))
  | inr lt ↦ inr (let le : greatest ≤ n + 1 = omega (arith, lt) in let e = min-eq_right le in omega (arith, e))
]
  where
    cases_le : (a b : ℕ) → (a ≤ b) ⊎ (b < a)
    cases_le a b = grind arith

count_rises : (watched : List Bool) (n x : ℕ) (left place : Place) → Rises n (count_after watched n x left place)
count_rises watched n x left place = by_test ((is_no_place left || is_no_place place) && slice_index_or watched x false)
  where
    by_test : (b : Bool) → Rises n (cond b (min (n + 1) greatest) n)
    by_test true = up_rises n (min (n + 1) greatest) (up_by_one n)
    by_test false = inl (omega arith)

count_up : (watched : List Bool) (n x : ℕ) (left place : Place) → (is_no_place left || is_no_place place) ≡ true → slice_index_or watched x false ≡ true →
    IsUp n (count_after watched n x left place)
count_up watched n x left place none watches = rw (none, watches) (up_by_one n)

-- the watched vregs stay, and the count stays or rises
pub record Counted (old new : StateValue) : Type 0 where
  pub watched : new.places.watched ≡ old.places.watched
  pub rises : Rises old.places.changes new.places.changes

set_alloc_counted : (old new : StateValue) (v : VirtualRegister) (p : Place) → SetsAlloc old.places new.places v p → Counted old new
set_alloc_counted old new v p z = record {
  watched = z.watched;
  rises = rw z.changes (count_rises old.places.watched old.places.changes v.number (alloc_of old.places v.number) p);
}

same_counted : (old new : StateValue) → new.places ≡ old.places → Counted old new
same_counted old new e = record {
  watched = ap (λ (p : VRegAllocsValue). p.watched) e;
  rises = inl (let same : new.places.changes ≡ old.places.changes = ap (λ (p : VRegAllocsValue). p.changes) e in omega (arith, same));
}

one_counted : (old new : StateValue) → Change Anything old new → Counted old new
one_counted old new (evicted r v s lt held gives sets_alloc edits machine) = set_alloc_counted old new v s sets_alloc
one_counted old new (slot_given v s may gives places edits machine) = same_counted old new places
one_counted old new (spilled v s may away gives sets_alloc edits machine) = set_alloc_counted old new v s sets_alloc
one_counted old new (param_left v s may there gives sets_alloc edits machine) = set_alloc_counted old new v NoPlace sets_alloc
one_counted old new (def_left v may sets_alloc slots edits machine) = set_alloc_counted old new v NoPlace sets_alloc
one_counted old new (use_located v p may nowhere sets_alloc slots edits machine) = set_alloc_counted old new v p sets_alloc
one_counted old new (edits_pushed es all e) = same_counted old new (ap (λ (t : StateValue). t.places) e)
one_counted old new (temps_added inst_regs class given made o) = same_counted old new o.places
one_counted old new (registers_used e) = same_counted old new (ap (λ (t : StateValue). t.places) e)

counted_trans : (a b c : StateValue) → Counted a b → Counted b c → Counted a c
counted_trans a b c f g = record {
  watched = g.watched ∙ f.watched;
  rises = rises_trans a.places.changes b.places.changes c.places.changes f.rises g.rises;
}

-- any sequence of changes keeps the watched vregs, and the count stays or rises
pub changes_counted : {old new : StateValue} → Changes Anything old new → Counted old new
changes_counted = changes_keep (record { same = λ t. same_counted t t refl; over = counted_trans; each = one_counted })

-- a change of a watched vreg is counted
abbrev pub CountsUp : StateValue → StateValue → Type 0
CountsUp old new = IsUp old.places.changes new.places.changes

abbrev Watches : StateValue → ℕ → Type 0
Watches t x = slice_index_or t.places.watched x false ≡ true

watched_stays : (old new : StateValue) (x : ℕ) → Counted old new → Watches old x → Watches new x
watched_stays old new x c w = subst (λ (l : List Bool). slice_index_or l x false ≡ true) (sym c.watched) w

-- a step that counts up, between two that don't count down
counts_between : (a b c d : StateValue) → Counted a b → CountsUp b c → Counted c d → CountsUp a d
counts_between a b c d f g h = up_rises_trans a.places.changes c.places.changes d.places.changes
    (rises_up_trans a.places.changes b.places.changes c.places.changes f.rises g) h.rises

-- a definition
def_counts : {point : ℕ} {v : VirtualRegister} {ends_block : Bool} {p : Place} {t u : InstRegs} {old new : StateValue} → FreesAlloc point v ends_block p t u old new →
    Watches old v.number → CountsUp old new
def_counts {v} {old} {new} d watches = counts_between old old d.left new (same_counted old old refl)
    (rw d.sets_alloc.changes (count_up old.places.watched old.places.changes v.number (alloc_of old.places v.number) NoPlace
    (none_right (is_no_place (alloc_of old.places v.number))) watches))
    (changes_counted (in_order d.middle (adds_move_if_changes (λ q r. tt) (λ q. tt) d.expected) (adds_move_if_changes (λ q r. tt) (λ q. tt) d.stored)))
  where
    none_right : (b : Bool) → (b || is_no_place NoPlace) ≡ true
    none_right true = refl
    none_right false = refl

-- the first use that the walk meets
use_counts : {v : VirtualRegister} {p : Place} {old new : StateValue} → LocatesUse v p old new → alloc_of old.places v.number ≡ NoPlace →
    Watches old v.number → CountsUp old new
use_counts (use_stays there e) none watches = absurd (there none)
use_counts {v} {p} {old} (located nowhere sets_alloc slots edits machine order) none watches =
    rw sets_alloc.changes (count_up old.places.watched old.places.changes v.number (alloc_of old.places v.number) p (rw nowhere refl) watches)

module _ (i : ℕ) (ends_block : Bool) (ops : List OperandValue) where
  operand_counted : {k : ℕ} {here there : List Place} {t u : InstRegs} {old new : StateValue} → ProcessesOperand i ends_block ops k here there t u old new →
      Counted old new
  operand_counted {k} one = changes_counted (processes_operand_changes (λ p q. tt) (free_operand (op_at ops k)) one)

  by_parts : {o : OperandRequest} {p : Place} {t u : InstRegs} {old new : StateValue} → AllocsDefOp (after i) o ends_block p t u old new →
      Watches old o.vreg.number → CountsUp old new
  by_parts {o} {old} {new} d watches =
      let got : Counted old d.middle = changes_counted (allocs_operand_changes (λ q r. tt) tt d.gets) in
      rises_up_trans old.places.changes d.middle.places.changes new.places.changes got.rises (def_counts d.defines (watched_stays old d.middle o.vreg.number got watches))

  -- an operand that defines a watched vreg
  one_def : (k : ℕ) (here there : List Place) (t u : InstRegs) (old new : StateValue) → ProcessesOperand i ends_block ops k here there t u old new →
      is_def (op_at ops k).kind ≡ true → is_fixed_nonallocatable (op_at ops k) ≡ false → Watches old (op_at ops k).vreg.number → CountsUp old new
  one_def k here there t u old new (a_register r f c e eu en) def allocated watches = absurd (let z : true ≡ false = sym f ∙ allocated in cc)
  one_def k here there t u old new (a_use p reads d e) def allocated watches = absurd (let z = reads_use (op_at ops k) reads in cc)
  one_def k here there t u old new (a_def p is plain d e) def allocated watches = by_parts d watches
  one_def k here there t u old new (a_reuse n p is reuses d e) def allocated watches = by_parts d watches

  -- an operand that reads a watched vreg without a location
  one_use : (k : ℕ) (here there : List Place) (t u : InstRegs) (old new : StateValue) → ProcessesOperand i ends_block ops k here there t u old new →
      is_reading (op_at ops k) ≡ true → Watches old (op_at ops k).vreg.number → Absent (op_at ops k).vreg.number old → CountsUp old new
  one_use k here there t u old new (a_register r f c e eu en) reading watches absent = absurd (reads_no_fixed (op_at ops k) reading f)
  one_use k here there t u old new (a_def p is plain d e) reading watches absent = absurd (let z = reads_use (op_at ops k) reading in cc)
  one_use k here there t u old new (a_reuse n p is reuses d e) reading watches absent = absurd (let z = reads_use (op_at ops k) reading in cc)
  one_use k here there t u old new (a_use p reads d e) reading watches absent =
      let number : (use_request (op_at ops k) (slice_index_or here k NoPlace)).vreg.number ≡ (op_at ops k).vreg.number =
      use_number (op_at ops k) (slice_index_or here k NoPlace) in
      let got : Counted old d.middle = changes_counted (allocs_operand_changes (λ q r. tt) tt d.gets) in
      let still : Absent (op_at ops k).vreg.number d.middle = stays_absent (op_at ops k).vreg.number (allocs_operand_changes (λ q r. tt) tt d.gets) absent in
      rises_up_trans old.places.changes d.middle.places.changes new.places.changes got.rises (use_counts d.uses
      (ap (alloc_of d.middle.places) number ∙ still.nowhere)
      (ap (λ (n : ℕ). slice_index_or d.middle.places.watched n false) number ∙ watched_stays old d.middle (op_at ops k).vreg.number got watches))

  -- the operands of a pass
  module _ (late : Bool) (before_it : List Place) (began : InstRegs) (first : StateValue) where
    abbrev Pass : ℕ → List Place → InstRegs → StateValue → Type 0
    Pass = ProcessesOperandsAt i ends_block late ops before_it began first

    pass_counted : (n : ℕ) (list : List Place) (u : InstRegs) (m : StateValue) → Pass n list u m → Counted first m
    pass_counted n list u m pass = changes_counted (processes_operands_at_changes (λ p q. tt) (λ j lt at. free_operand (op_at ops j)) pass)

    -- an operand of the pass that defines a watched vreg is counted
    pub pass_def : (k : ℕ) → is_def (op_at ops k).kind ≡ true → is_fixed_nonallocatable (op_at ops k) ≡ false → is_late (op_at ops k).position ≡ late →
        Watches first (op_at ops k).vreg.number → (n : ℕ) (list : List Place) (u : InstRegs) (m : StateValue) → Pass n list u m → k < n → CountsUp first m
    pass_def k def allocated at watches n list u m none_placed lt = absurd (omega (arith, lt))
    pass_def k def allocated at watches n list u m (of_other j l w s prev other) lt =
        let ne : k ≢ j = λ e. other (ap (λ (z : ℕ). is_late (op_at ops z).position) (sym e) ∙ at) in
        pass_def k def allocated at watches j list u m prev (omega (arith, lt, ne))
    pass_def k def allocated at watches n list u m (one_placed j l next w y s z prev of_pass one) lt = elim (cases_eq j k) [
      | inl e ↦ rises_up_trans first.places.changes s.places.changes m.places.changes (pass_counted j l w s prev).rises
          (one_def k l list w u s m (subst (λ (q : ℕ). ProcessesOperand i ends_block ops q l list w u s m) e one) def allocated
          (watched_stays first s (op_at ops k).vreg.number (pass_counted j l w s prev) watches))
      | inr ne ↦ up_rises_trans first.places.changes s.places.changes m.places.changes
          (pass_def k def allocated at watches j l w s prev (omega (arith, lt, ne))) (operand_counted one).rises
    ]

    -- a watched vreg without a location: it is still without one, or the count is up
    pub pass_absent : (x : ℕ) → Watches first x → Absent x first → (n : ℕ) (list : List Place) (u : InstRegs) (m : StateValue) → Pass n list u m →
        Absent x m ⊎ CountsUp first m
    pass_absent x watches absent n list u m none_placed = inl absent
    pass_absent x watches absent n list u m (of_other j l w s prev other) = pass_absent x watches absent j list u m prev
    pass_absent x watches absent n list u m (one_placed j l next w y s z prev of_pass one) = elim (pass_absent x watches absent j l w s prev) [
      | inr up ↦ inr (up_rises_trans first.places.changes s.places.changes m.places.changes up (operand_counted one).rises)
      | inl still ↦ elim (cases_Bool (is_reading (op_at ops j))) [
        | inr silent ↦ inl (stays_absent x (processes_operand_changes (λ p q. tt) (placed_elsewhere x (op_at ops j) (λ reading. absurd cc)) one) still)
        | inl reading ↦ elim (cases_eq (op_at ops j).vreg.number x) [
          | inr ne ↦ inl (stays_absent x (processes_operand_changes (λ p q. tt) (placed_elsewhere x (op_at ops j) (λ r. ne)) one) still)
          | inl e ↦ inr (rises_up_trans first.places.changes s.places.changes m.places.changes (pass_counted j l w s prev).rises
              (one_use j l list w u s m one reading
              (ap (λ (n : ℕ). slice_index_or s.places.watched n false) e ∙ watched_stays first s x (pass_counted j l w s prev) watches)
              (subst (λ (n : ℕ). Absent n s) (sym e) still)))
        ]
      ]
    ]

    -- an operand of the pass that reads a watched vreg without a location is counted
    pub pass_use : (k : ℕ) → is_reading (op_at ops k) ≡ true → is_late (op_at ops k).position ≡ late → Watches first (op_at ops k).vreg.number →
        Absent (op_at ops k).vreg.number first → (n : ℕ) (list : List Place) (u : InstRegs) (m : StateValue) → Pass n list u m → k < n → CountsUp first m
    pass_use k reading at watches absent n list u m none_placed lt = absurd (omega (arith, lt))
    pass_use k reading at watches absent n list u m (of_other j l w s prev other) lt =
        let ne : k ≢ j = λ e. other (ap (λ (z : ℕ). is_late (op_at ops z).position) (sym e) ∙ at) in
        pass_use k reading at watches absent j list u m prev (omega (arith, lt, ne))
    pass_use k reading at watches absent n list u m (one_placed j l next w y s z prev of_pass one) lt = elim (cases_eq j k) [
      | inr ne ↦ up_rises_trans first.places.changes s.places.changes m.places.changes
          (pass_use k reading at watches absent j l w s prev (omega (arith, lt, ne))) (operand_counted one).rises
      | inl e ↦ elim (pass_absent (op_at ops k).vreg.number watches absent j l w s prev) [
        | inr up ↦ up_rises_trans first.places.changes s.places.changes m.places.changes up (operand_counted one).rises
        | inl still ↦ rises_up_trans first.places.changes s.places.changes m.places.changes (pass_counted j l w s prev).rises
            (one_use k l list w u s m (subst (λ (q : ℕ). ProcessesOperand i ends_block ops q l list w u s m) e one) reading
            (watched_stays first s (op_at ops k).vreg.number (pass_counted j l w s prev) watches) still)
      ]
    ]

-- an instruction of a block
module _ (f : FunctionValue) (b i : ℕ) (before_it places : List Place) (old new : StateValue) (a : AllocsInstInBlock f b i before_it places old new) where
  abbrev ops : List OperandValue
  ops = (inst_at f i).operands

  prepared : Changes Anything old a.allocates.allocates.after_clobbers
  prepared =
      let p = a.allocates.allocates.prepares in
      in_order p.middle (evicts_fixed_changes (λ q r. tt) p.fixed) (evicts_each_changes (λ q r. tt) p.emptied)

  quiet_absent : (x : ℕ) → Absent x old → Absent x a.allocates.allocates.after_clobbers
  quiet_absent x =
      let p = a.allocates.allocates.prepares in
      stays_absent x (in_order p.middle (evicts_fixed_changes (λ q r. tt) p.fixed) (evicts_each_changes (λ q r. tt) p.emptied))

  before_late : Counted old a.allocates.allocates.after_clobbers
  before_late = changes_counted prepared

  late_counted : Counted a.allocates.allocates.after_clobbers a.allocates.allocates.after_late
  late_counted = changes_counted (processes_operands_at_changes (λ p q. tt) (λ j lt at. free_operand (op_at ops j)) a.allocates.allocates.lates)

  branch_counted : Counted a.middle new
  branch_counted = elim (cases_Bool (inst_at f i).is_branch) [
    | inl is ↦ changes_counted (processes_branch_changes (λ p q. tt) (any_passed (λ e. Unit {0}) f b) (a.branch is))
    | inr other ↦ same_counted a.middle new (ap (λ (t : StateValue). t.places) (a.no_branch other))
  ]

  after_both : Counted a.allocates.allocates.after_early new
  after_both = counted_trans a.allocates.allocates.after_early a.middle new
      (changes_counted (moves_uses_changes (λ q r. tt) (λ j lt reading q. tt) a.allocates.allocates.moves)) branch_counted

  after_first : Counted a.allocates.allocates.after_late new
  after_first = counted_trans a.allocates.allocates.after_late a.allocates.allocates.after_early new
      (changes_counted (processes_operands_at_changes (λ p q. tt) (λ j lt at. free_operand (op_at ops j)) a.allocates.allocates.earlies)) after_both

  passes_counted : Counted old a.allocates.allocates.after_late
  passes_counted = counted_trans old a.allocates.allocates.after_clobbers a.allocates.allocates.after_late before_late late_counted

  -- the instruction counts each watched vreg that it defines
  pub inst_def : (k : ℕ) → k < length (inst_at f i).operands → is_def (op_at (inst_at f i).operands k).kind ≡ true →
      is_fixed_nonallocatable (op_at (inst_at f i).operands k) ≡ false → Watches old (op_at (inst_at f i).operands k).vreg.number → CountsUp old new
  inst_def k lt def allocated watches = elim (cases_Bool (is_late (op_at ops k).position)) [
    | inl at ↦ counts_between old a.allocates.allocates.after_clobbers a.allocates.allocates.after_late new before_late
        (pass_def i (ends_block (inst_at f i)) ops true a.allocates.blank a.allocates.allocates.quiet a.allocates.allocates.after_clobbers k def allocated at
        (watched_stays old a.allocates.allocates.after_clobbers (op_at ops k).vreg.number before_late watches) (length ops) a.allocates.allocates.half a.allocates.allocates.late a.allocates.allocates.after_late a.allocates.allocates.lates lt) after_first
    | inr at ↦ counts_between old a.allocates.allocates.after_late a.allocates.allocates.after_early new passes_counted
        (pass_def i (ends_block (inst_at f i)) ops false a.allocates.allocates.half a.allocates.allocates.late a.allocates.allocates.after_late k def allocated at
        (watched_stays old a.allocates.allocates.after_late (op_at ops k).vreg.number passes_counted watches) (length ops) a.allocates.here a.allocates.allocates.early a.allocates.allocates.after_early a.allocates.allocates.earlies lt) after_both
  ]

  -- the instruction counts each watched vreg that it reads while the vreg has no location
  pub inst_use : (k : ℕ) → k < length (inst_at f i).operands → is_reading (op_at (inst_at f i).operands k) ≡ true →
      Watches old (op_at (inst_at f i).operands k).vreg.number → Absent (op_at (inst_at f i).operands k).vreg.number old → CountsUp old new
  inst_use k lt reading watches absent = elim (cases_Bool (is_late (op_at ops k).position)) [
    | inl at ↦ counts_between old a.allocates.allocates.after_clobbers a.allocates.allocates.after_late new before_late
        (pass_use i (ends_block (inst_at f i)) ops true a.allocates.blank a.allocates.allocates.quiet a.allocates.allocates.after_clobbers k reading at
        (watched_stays old a.allocates.allocates.after_clobbers (op_at ops k).vreg.number before_late watches) (quiet_absent (op_at ops k).vreg.number absent) (length ops) a.allocates.allocates.half a.allocates.allocates.late a.allocates.allocates.after_late a.allocates.allocates.lates lt)
        after_first
    | inr at ↦ elim (pass_absent i (ends_block (inst_at f i)) ops true a.allocates.blank a.allocates.allocates.quiet a.allocates.allocates.after_clobbers (op_at ops k).vreg.number
        (watched_stays old a.allocates.allocates.after_clobbers (op_at ops k).vreg.number before_late watches) (quiet_absent (op_at ops k).vreg.number absent) (length ops) a.allocates.allocates.half a.allocates.allocates.late a.allocates.allocates.after_late a.allocates.allocates.lates) [
          | inr up ↦ counts_between old a.allocates.allocates.after_clobbers a.allocates.allocates.after_late new before_late up after_first
          | inl none ↦ counts_between old a.allocates.allocates.after_late a.allocates.allocates.after_early new passes_counted
              (pass_use i (ends_block (inst_at f i)) ops false a.allocates.allocates.half a.allocates.allocates.late a.allocates.allocates.after_late k reading at
              (watched_stays old a.allocates.allocates.after_late (op_at ops k).vreg.number passes_counted watches) none (length ops) a.allocates.here a.allocates.allocates.early a.allocates.allocates.after_early a.allocates.allocates.earlies lt)
              after_both
        ]
  ]

  -- an instruction that leaves the count as it is adds nothing to live ranges
  pub unchanged_adds_no_range : IsLimited f → (env : MachineValue) → IsWellFormed env f → i < length f.insts → LocatedAreUsed f (i + 1) old →
      new.places.changes ≡ old.places.changes → old.places.changes < 2 ^ 64 - 1 → AddsNothing f (IsWanted old.places.watched) i
  unchanged_adds_no_range limited env ok inside used same few = record {
    defines = λ v asked d.
        let n = IsDefOperand-from_DefinesAt f v i d in
        not_up (inst_def d.0 n.operand n.definition ((orderly env f limited ok i inside).allocated d.0 n.operand n.definition)
        (ap (λ (x : ℕ). slice_index_or old.places.watched x false) n.number ∙ asked));
    reads = λ n at k asked r unused.
        let watches : Watches old (op_at ops k).vreg.number = ap (λ (x : ℕ). slice_index_or old.places.watched x false) r.number ∙ asked in
        not_up (inst_use k r.within r.reading watches (subst (λ (x : ℕ). Absent x old) (sym r.number)
        (used n (λ j le u. unused j (omega (arith, le)) u))));
  }
    where
      not_up : CountsUp old new → ⊥
      not_up (inl up) = omega (arith, up, same)
      not_up (inr most) = omega (arith, most, same, few)

-- the watched vregs stay over all instructions of a block
pub insts_watched : {f : FunctionValue} {b i : ℕ} {blank places : List Place} {old new : StateValue} → AllocsBlockInsts f b blank old i places new →
    new.places.watched ≡ old.places.watched
insts_watched {f} {b} walk = (changes_counted (allocs_block_insts_changes (λ n ge lt. free_inst f b n) walk)).watched

pub blocks_watched : {f : FunctionValue} {b : ℕ} {blank places : List Place} {old new : StateValue} → AllocsBlocks f blank old b places new →
    new.places.watched ≡ old.places.watched
blocks_watched {f} walk = (changes_counted (allocs_blocks_changes (λ b ge lt. (free_begin f b, λ n from upto. free_inst f b n)) walk)).watched
