-- The debug location of each kept label names a valid place that holds its vreg's value.
use Rattle.std.proofs.Common.{ℕ, ◌≡◌, ◌<◌, inl, inr, false, length, refl, sym, ap, subst}
use Rattle.std.specs.Prelude.{Option}
use Rattle.regalloc2_names.specs.Register.{VirtualRegister}
use Rattle.regalloc2_names.specs.Place.{Place, NoPlace, InRegister, InSlot}
use Rattle.regalloc2_function.specs.FunctionValue.{FunctionValue, IsLimited, Label, inst_at, op_at}
use Rattle.regalloc2_semantics.specs.Places.{IsValidPlace}
use Rattle.regalloc2_function.specs.Fitting.{MachineFits}
use Rattle.regalloc2_function.specs.Machine.{MachineValue}
use Rattle.regalloc2_function.specs.OutputValue.{allocs_of, place_at}
use Rattle.regalloc2_semantics.specs.Runs.{IsDefinitelyAssigned}
use Rattle.regalloc2_names.specs.Operand.{is_fixed_nonallocatable}
use Rattle.regalloc2_semantics.specs.Debug.{ShowsValue}
use Rattle.regalloc2_function.specs.WellFormed.{IsWellFormed}
use Rattle.regalloc2_semantics.specs.Laws.{ReadsAgreeOnPaths}
use Rattle.regalloc2_semantics.proofs.Soundness.{edge_within}
use Rattle.regalloc2_carry.proofs.SingleDef.{Made, by_operand}
use Rattle.regalloc2_analysis.specs.declared.live_ranges.InstOperand.{InstOperand}
use Rattle.regalloc2_analysis.specs.declared.live_ranges.LiveRange.{LiveRange}
use Rattle.regalloc2_analysis.specs.LiveRanges.LiveRanges.{IsKeptRange, IsShownBy}
use Rattle.regalloc2_analysis.specs.LiveRanges.LiveRanges.IsShownBy.{by_late_use, by_early_use, by_argument, by_definition}
use Rattle.regalloc2_fastalloc_state.specs.StateParts.{SlotsHaveOneOwner, IsSlotOrNone, slot_name}
use Rattle.regalloc2_fastalloc_proofs.proofs.Operands.AllocsSoFar.{AreSoundOperands, reads_allocated}
use Rattle.regalloc2_fastalloc_proofs.proofs.Safety.OutputOfWalk.{IsOutputOfWalk, made_proper}
use Rattle.regalloc2_fastalloc_proofs.proofs.Safety.BlocksKeepSafe.{MayInBlocks}
use Rattle.regalloc2_fastalloc_proofs.proofs.Safety.BranchArgsKeepState.{processes_branch_between}
use Rattle.regalloc2_fastalloc_proofs.proofs.Walk.BlocksCarryFromFreshState.{passed_slots}
use Rattle.regalloc2_fastalloc_proofs.proofs.Walk.DefsBeforeUses.{used_made}
use Rattle.regalloc2_fastalloc_proofs.proofs.Inst.ProperInsts.{all_proper}
use Rattle.regalloc2_fastalloc_proofs.specs.Debug.ShownPlace.{place_of_operand, shown_place}
use Rattle.regalloc2_fastalloc_proofs.proofs.Debug.ShownPlaceHoldsValue.{shown}
use Rattle.regalloc2_fastalloc_proofs.proofs.Debug.SlotAtBlockBegin.{AreAtBegin}
use Rattle.regalloc2_fastalloc_proofs.proofs.Walk.WholeWalk.{WholeWalk}

module _ (env : MachineValue) (f : FunctionValue) (limited : IsLimited f) (ok : IsWellFormed env f) where
  -- a vreg that a debug location shows is defined
  pub shown_made : (v : VirtualRegister) {by : Option InstOperand} → IsShownBy f v by → Made f v
  shown_made v (by_late_use o most r) = subst (Made f) r.reader.vreg (((all_proper env f limited ok).knows o.inst r.reader.inst).reading o.index r.reader.index
      r.reader.reading)
  shown_made v (by_early_use o most never r) = subst (Made f) r.reader.vreg
      (((all_proper env f limited ok).knows o.inst r.reader.inst).reading o.index r.reader.index r.reader.reading)
  shown_made v (by_argument i most never nor) = elim most.0 [
    | inl a ↦ absurd (nor a)
    | inr rest ↦ elim rest [
      | inl b ↦ absurd (never b)
      | inr p ↦ (let edge = p.1.1.1 in
          used_made f ok.defined_once ok.follow ok.uses_defined v p.0 (edge_within f p.0 p.1.0 edge) (inr (p.1.0, edge, p.1.2)))
    ]
  ]
  shown_made v (by_definition o never d) =
      by_operand o.inst o.index (record { inst = d.inst; operand = d.index; definition = d.definition; number = ap (λ (w : VirtualRegister). w.number) d.vreg })
      d.vreg

module _ (walk : WholeWalk) (m : IsOutputOfWalk walk.f walk.env (Made walk.f) (MayInBlocks walk.f) walk.last walk.out) where
  open walk use {env, f, limited, ok, blank, begin, last, out, empty, fit, walks}

  -- an operand's place is valid for its vreg
  operand_proper : (v : VirtualRegister) (o : InstOperand) → o.inst < length f.insts → o.index < length (inst_at f o.inst).operands →
      is_fixed_nonallocatable (op_at (inst_at f o.inst).operands o.index) ≡ false → (op_at (inst_at f o.inst).operands o.index).vreg ≡ v →
      IsValidPlace env out v.class (place_at (allocs_of out o.inst) o.index)
  operand_proper v o lt less named is =
      subst (λ (w : VirtualRegister). IsValidPlace env out w.class (place_at (allocs_of out o.inst) o.index)) is
      ((made_proper f env (Made f) (MayInBlocks f) last out m).operands o.inst lt o.index less named)

  -- if there is no slot
  by_proper : IsDefinitelyAssigned f → (v : VirtualRegister) {by : Option InstOperand} → IsShownBy f v by → slot_name last.slots v.number ≡ NoPlace →
      IsValidPlace env out v.class (place_of_operand out by)
  by_proper written v (by_late_use o most r) none = operand_proper v o r.reader.inst r.reader.index
      (reads_allocated (op_at (inst_at f o.inst).operands o.index) r.reader.reading) r.reader.vreg
  by_proper written v (by_early_use o most never r) none = operand_proper v o r.reader.inst r.reader.index
      (reads_allocated (op_at (inst_at f o.inst).operands o.index) r.reader.reading) r.reader.vreg
  by_proper written v (by_argument i most never nor) none = absurd (elim most.0 [
    | inl a ↦ nor a
    | inr rest ↦ elim rest [
      | inl b ↦ never b
      | inr p ↦ passed_slots walk (processes_branch_between f) v (record { block = p.0; inst = i }) p.1 none
    ]
  ])
  by_proper written v (by_definition o never d) none = operand_proper v o d.inst d.index
      (((all_proper env f limited ok).orderly o.inst d.inst).allocated o.index d.index d.definition) d.vreg

  -- if each read is definitely assigned (`IsDefinitelyAssigned`), the place that a debugger is shown for a vreg is valid for
  -- its class
  pub place_proper : IsDefinitelyAssigned f → (v : VirtualRegister) {by : Option InstOperand} → IsShownBy f v by →
      IsValidPlace env out v.class (shown_place out (slot_name last.slots v.number) by)
  place_proper written v {by} is = by_slot (slot_name last.slots v.number) refl (m.kept.safe.slots v.number)
    where
      by_slot : (q : Place) → slot_name last.slots v.number ≡ q → IsSlotOrNone last.slots.count q → IsValidPlace env out v.class (shown_place out q by)
      by_slot NoPlace e below = by_proper written v is e
      by_slot (InRegister r) e below = absurd below
      by_slot (InSlot n) e below = subst (λ (c : ℕ). n < c) (sym m.count) below

  -- what a debug location must satisfy for its label
  pub label_shown : MachineFits f env → IsDefinitelyAssigned f → SlotsHaveOneOwner last.slots → ((i : ℕ) → i < length f.insts → AreSoundOperands (Made f)
      (inst_at f i).operands) → ReadsAgreeOnPaths f out → (stand : ℕ → VirtualRegister → Option Place) → AreAtBegin env f blank begin last out stand →
      (l : Label) (r : LiveRange) → IsKeptRange f l r →
      (let p : Place = shown_place out (slot_name last.slots r.vreg.number) r.by in IsValidPlace env out l.vreg.class p × ShowsValue f out l.vreg p)
  label_shown fits written owned sound_ops agree stand begins l r k =
      subst (λ (n : ℕ). IsValidPlace env out l.vreg.class (shown_place out (slot_name last.slots n) r.by)
      × ShowsValue f out l.vreg (shown_place out (slot_name last.slots n) r.by)) (ap (λ (w : VirtualRegister). w.number) (sym k.vreg)) (
        place_proper written l.vreg k.by,
        shown walk m written l.vreg ((shown_made env f limited ok) l.vreg k.by) fits owned sound_ops
            agree stand begins k.by,
      )
