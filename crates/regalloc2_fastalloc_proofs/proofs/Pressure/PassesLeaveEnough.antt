-- In both passes over an instruction's operands enough registers are left, and each operand finds its place.
-- The fold in `Changes` of regalloc2_fastalloc_proofs doesn't apply: an operand's place is passed from its selection to
-- the steps that follow.
use Rattle.std.proofs.Common.{ℕ, ◌≡◌, ◌+◌, ◌<◌, ◌≤◌, true, false, List, length, inl, inr, arith}
use Rattle.std.proofs.lemmas.Bool.{both_ways}
use Rattle.regalloc2_names.specs.declared.RegClass.{RegClass}
use Rattle.regalloc2_names.specs.declared.OperandConstraint.TheVariants.{Reuse}
use Rattle.regalloc2_names.specs.Operand.{OperandValue, is_late}
use Rattle.regalloc2_names.specs.Place.{Place}
use Rattle.regalloc2_fastalloc_state.specs.declared.inst_regs.InstRegs.{InstRegs}
use Rattle.regalloc2_function.specs.FunctionValue.{op_at}
use Rattle.regalloc2_fastalloc_proofs.specs.InstSteps.{StateValue, ProcessesOperandsAt, none_placed, of_other, one_placed, no_register, ProcessOperandsAt}
use Rattle.regalloc2_fastalloc_proofs.proofs.Operands.AllocsSoFar.{Filled, DefsAreWritten, filling_of}
use Rattle.regalloc2_fastalloc_proofs.proofs.Safety.OperandPassesKeepSafe.{InLate, InEarly, late_more, early_more, late_operands_kept, early_operands_kept}
use Rattle.regalloc2_fastalloc_proofs.specs.Pressure.EnoughRegs.{AllWrite, AllMay}
use Rattle.regalloc2_fastalloc_proofs.proofs.Safety.StepsKeepMachine.{machine_stays}
use Rattle.regalloc2_fastalloc_proofs.proofs.Changes.InstChanges.{free_operand, processes_operands_at_changes}
use Rattle.regalloc2_fastalloc_proofs.proofs.Pressure.TablesHaveAllRegs.{HasAll, all_kept}
use Rattle.regalloc2_fastalloc_proofs.proofs.Pressure.FreeRegsCoverWaiting.{Paying}
use Rattle.regalloc2_fastalloc_proofs.proofs.Pressure.OperandsLeaveEnough.{processes_operand_pays, never_process_operand, NamedOperands}
use Rattle.regalloc2_fastalloc_proofs.proofs.Safety.OperandPassesKeepSafe.{PassesContext, passes_of}

-- more are done
pub paying_more : (Named : RegClass → Type 0) (ops : List OperandValue) (D E : ℕ → Type 0) (here : List Place) (u : InstRegs) (t : StateValue) →
    ((j : ℕ) → j < length ops → D j → E j) → Paying Named ops D here u t → Paying Named ops E here u t
paying_more Named ops D E here u t forth p = record {
  ample = p.ample;
  awaited = p.awaited;
  placed_unfree = p.placed_unfree;
  named = λ j r less not_e at. let x = p.named j r less (λ d. not_e (forth j less d)) at in (x.0, x.1, forth x.0 x.1 x.2, x.3);
}

-- definitions may write any slot
pub defs_write : (i : ℕ) (ops : List OperandValue) → DefsAreWritten AllWrite i ops
defs_write i ops k n less def = tt

module _ (operands : NamedOperands) where
  open operands use {Named, env, apart, Known, named, ops, sound_ops, fixed, i, ends_block}

  -- the passes, wherever the walk may write and move
  abbrev passes : PassesContext
  passes = passes_of (filling_of env Known AllWrite AllMay ops sound_ops) apart fixed i ends_block tt (defs_write i ops)

  -- which operands are done in each pass
  abbrev pub Late : ℕ → ℕ → Type 0
  Late k = InLate passes k

  -- which operands are done in the pass over early operands, before operand k
  abbrev pub Early : ℕ → ℕ → Type 0
  Early k = InEarly passes k

  module _ (blank : List Place) (t : InstRegs) (old : StateValue) (all : HasAll env old) where
    module _ (h : Filled env Known AllWrite AllMay ops (Late 0) blank t old) (p : Paying Named ops (Late 0) blank t old) where
      filled_late : (k : ℕ) (there : List Place) (u : InstRegs) (m : StateValue) → ProcessesOperandsAt i ends_block true ops blank t old k there u m →
          k ≤ length ops → Filled env Known AllWrite AllMay ops (Late k) there u m
      filled_late k there u m places le = late_operands_kept passes blank t old h k there u
          m places le

      not_late : (k : ℕ) → k < length ops → (n : ℕ) → (op_at ops k).constraint ≡ Reuse n → Late k n → ⊥
      not_late k lt n reuses d = both_ways (is_late (op_at ops n).position) (sound_ops.named k n lt reuses).1 d.1

      -- the pass over late operands
      pub late_operands_pay : (k : ℕ) (there : List Place) (u : InstRegs) (m : StateValue) → ProcessesOperandsAt i ends_block true ops blank t old k there u m →
          k ≤ length ops → Paying Named ops (Late k) there u m
      late_operands_pay k there u m none_placed le = p
      late_operands_pay k there u m (of_other j l w s prev other) le = paying_more Named ops (Late j) (Late (j + 1)) there u m
          (λ x less d. ((let a = d.0 in omega (arith, a)), d.1)) (late_operands_pay j there u m prev (omega arith))
      late_operands_pay k there u m (one_placed j l next w x s n prev late one) le =
          let more = late_more passes j late in
          processes_operand_pays operands (Late j) j l w s (omega arith) more.before_it (not_late j (omega arith))
          (filled_late j l w s prev (omega arith)) (late_operands_pay j l w s prev (omega arith))
          (all_kept env old s (machine_stays (processes_operands_at_changes (λ p q. tt) (λ n lt at. free_operand _) prev)) all) (Late (j + 1))
          more.at_it more.forth there u m one

      -- if registers are enough, the pass over late operands lacks none
      pub never_late : ProcessOperandsAt i ends_block true ops blank t old no_register → ⊥
      never_late s =
          let more = late_more passes s.index s.stops.0 in
          let lt : s.index < length ops = s.inside in
          never_process_operand operands (Late s.index) s.index s.given.0 s.given.1 s.middle s.inside more.before_it
          (not_late s.index s.inside)
          (filled_late s.index s.given.0 s.given.1 s.middle s.done (omega (arith, lt)))
          (late_operands_pay s.index s.given.0 s.given.1 s.middle s.done (omega (arith, lt)))
          (all_kept env old s.middle (machine_stays (processes_operands_at_changes (λ p q. tt) (λ n lt at. free_operand _) s.done)) all) s.stops.1

    module _ (h : Filled env Known AllWrite AllMay ops (Early 0) blank t old) (p : Paying Named ops (Early 0) blank t old) where
      filled_early : (k : ℕ) (there : List Place) (u : InstRegs) (m : StateValue) → ProcessesOperandsAt i ends_block false ops blank t old k there u m →
          k ≤ length ops → Filled env Known AllWrite AllMay ops (Early k) there u m
      filled_early k there u m places le = early_operands_kept passes blank t old h k there
          u m places le

      not_early : (k : ℕ) → k < length ops → is_late (op_at ops k).position ≡ false → (n : ℕ) → (op_at ops k).constraint ≡ Reuse n → Early k n → ⊥
      not_early k lt early n reuses d = both_ways (is_late (op_at ops k).position) early (sound_ops.late_reuse k n lt reuses).1

      -- the pass over early operands
      pub early_operands_pay : (k : ℕ) (there : List Place) (u : InstRegs) (m : StateValue) → ProcessesOperandsAt i ends_block false ops blank t old k there u m →
          k ≤ length ops → Paying Named ops (Early k) there u m
      early_operands_pay k there u m none_placed le = p
      early_operands_pay k there u m (of_other j l w s prev other) le = paying_more Named ops (Early j) (Early (j + 1)) there u m
          (λ x less d. elim d [ inl late ↦ inl late | inr below ↦ inr (omega (arith, below)) ]) (early_operands_pay j there u m prev (omega arith))
      early_operands_pay k there u m (one_placed j l next w x s n prev early one) le =
          let more = early_more passes j early in
          processes_operand_pays operands (Early j) j l w s (omega arith) more.before_it (not_early j (omega arith) early)
          (filled_early j l w s prev (omega arith)) (early_operands_pay j l w s prev (omega arith))
          (all_kept env old s (machine_stays (processes_operands_at_changes (λ p q. tt) (λ n lt at. free_operand _) prev)) all) (Early (j + 1))
          more.at_it more.forth there u m one

      -- if registers are enough, the pass over early operands lacks none
      pub never_early : ProcessOperandsAt i ends_block false ops blank t old no_register → ⊥
      never_early s =
          let more = early_more passes s.index s.stops.0 in
          let lt : s.index < length ops = s.inside in
          never_process_operand operands (Early s.index) s.index s.given.0 s.given.1 s.middle s.inside more.before_it
          (not_early s.index s.inside s.stops.0)
          (filled_early s.index s.given.0 s.given.1 s.middle s.done (omega (arith, lt)))
          (early_operands_pay s.index s.given.0 s.given.1 s.middle s.done (omega (arith, lt)))
          (all_kept env old s.middle (machine_stays (processes_operands_at_changes (λ p q. tt) (λ n lt at. free_operand _) s.done)) all) s.stops.1
