-- An instruction that fits is allocated: registers suffice at each of its stages, and its reserved scratch register is
-- left for its branch.
use Rattle.std.proofs.Common.{ℕ, ◌≡◌, ◌<◌, true, false, List, length, refl, sym, ◌∙◌, inl, inr, arith}
use Rattle.std.specs.Prelude.{not, slice_index_or}
use Rattle.std.proofs.lemmas.Bool.{and_left, and_right}
use Rattle.regalloc2_names.specs.declared.OperandConstraint.TheVariants.{FixedReg}
use Rattle.regalloc2_names.specs.declared.RegClass.{RegClass}
use Rattle.regalloc2_names.specs.declared.sets.PRegSet.{PRegSet}
use Rattle.regalloc2_names.specs.Register.{Register, VirtualRegister, has_register, registers_of}
use Rattle.regalloc2_names.specs.Operand.{OperandValue, is_fixed_nonallocatable}
use Rattle.regalloc2_names.specs.Place.{Place, NoPlace, before, after}
use Rattle.regalloc2_function.specs.FunctionValue.{FunctionValue, InstValue, op_at}
use Rattle.regalloc2_function.specs.Machine.{MachineValue}
use Rattle.regalloc2_semantics.specs.Fits.{Fits}
use Rattle.regalloc2_function.specs.Fitting.{NamesClass}
use Rattle.regalloc2_fastalloc_state.specs.declared.inst_regs.InstRegs.{InstRegs}
use Rattle.regalloc2_fastalloc_state.specs.InstRegs.{is_free}
use Rattle.regalloc2_fastalloc_state.specs.Positions.{positions_of}
use Rattle.regalloc2_fastalloc_proofs.specs.InstSteps.{StateValue, ReservesRegs, RemovesClobbers, own as claims_own, EvictsFixed, ends_block}
use Rattle.regalloc2_fastalloc_proofs.specs.InstSteps.{ProcessesOperandsAt, MovesUses, PreparesRegs, no_register, EvictFixed, EvictEach, ProcessOperandsAt}
use Rattle.regalloc2_fastalloc_proofs.specs.InstSteps.{MoveUses, PrepareRegs, in_reserve, in_fixed, in_clobbers, AllocInst, in_prepare, in_lates, in_earlies}
use Rattle.regalloc2_fastalloc_proofs.specs.InstSteps.{in_moves}
use Rattle.regalloc2_fastalloc_proofs.specs.Safety.{AreSafeRegs}
use Rattle.regalloc2_fastalloc_proofs.proofs.Safety.StepsKeepSafe.{AreKindsApart, safe_turn}
use Rattle.regalloc2_fastalloc_proofs.proofs.Moves.ScratchRegTaken.{Less, less_trans}
use Rattle.regalloc2_fastalloc_proofs.proofs.Evictions.EvictKeepsRecord.{evictions_less}
use Rattle.regalloc2_fastalloc_proofs.proofs.Changes.Evictions.{Evictions, both_evicted, fixed_evicts, each_evicts}
use Rattle.regalloc2_fastalloc_proofs.proofs.Operands.AllocsSoFar.{AreSoundOperands, Filled, FixedAreKnown, filled_same, reads_allocated, filling_of}
use Rattle.regalloc2_fastalloc_proofs.proofs.Safety.OperandPassesKeepSafe.{late_operands_kept, early_operands_kept, passes_of}
use Rattle.regalloc2_fastalloc_proofs.proofs.Safety.InstKeepsSafe.{fresh_turn}
use Rattle.regalloc2_fastalloc_proofs.specs.Pressure.EnoughRegs.{HasEnoughRegs, waiting, none_needed, AllWrite, AllMay, AreSafe}
use Rattle.regalloc2_fastalloc_proofs.proofs.Safety.StepsKeepMachine.{KeepsMachine, keeps_machine_trans, machine_stays}
use Rattle.regalloc2_fastalloc_proofs.proofs.Changes.InstChanges.{free_operand, processes_operands_at_changes, evicts_fixed_changes, evicts_each_changes}
use Rattle.regalloc2_fastalloc_proofs.proofs.Pressure.TablesHaveAllRegs.{HasAll, all_kept}
use Rattle.regalloc2_fastalloc_proofs.proofs.Pressure.OneRegTaken.{ample_less}
use Rattle.regalloc2_fastalloc_proofs.proofs.Pressure.WaitingOperands.{all_wait}
use Rattle.regalloc2_fastalloc_proofs.proofs.Pressure.FreeRegsCoverWaiting.{Paying, unfree_kept}
use Rattle.regalloc2_fastalloc_proofs.proofs.Pressure.PassesLeaveEnough.{Late, Early, defs_write, paying_more, late_operands_pay, never_late}
use Rattle.regalloc2_fastalloc_proofs.proofs.Pressure.PassesLeaveEnough.{early_operands_pay, never_early}
use Rattle.regalloc2_fastalloc_proofs.proofs.Pressure.EvictionsLeaveEnough.{LeavesEnough, evictions_ample, never_after, ample_moves_uses, never_move_uses}
use Rattle.regalloc2_fastalloc_proofs.proofs.Pressure.FittingInstReserves.{never_reserve_regs}
use Rattle.regalloc2_fastalloc_proofs.proofs.Pressure.EnoughAtStart.{StartsFree, held_ample}
use Rattle.regalloc2_fastalloc_proofs.proofs.BlockEnd.NoMoveInLastInst.{some_position, no_place_not_register}
use Rattle.regalloc2_fastalloc_proofs.proofs.Pressure.StepsLeaveEnough.{Demand, demand_of}
use Rattle.regalloc2_fastalloc_proofs.proofs.Pressure.OperandsLeaveEnough.{NamedOperands, named_operands}

-- what is held stays held while registers are emptied
holds_less : (clobbers : PRegSet) (t u : InstRegs) → RemovesClobbers clobbers t u → Less t u
holds_less clobbers t u h = record {
  early = λ q e. h.early q ∙ e;
  late = λ q e. h.late q ∙ rw e (and_right (not (has_register clobbers q)) false refl);
}

-- The instruction i, which fits: the function and a machine, whose kinds of registers are disjoint; the known vregs, of
-- classes that the function names; the tables after the instruction, safe and with all registers; and the registers and
-- the list of places with which it begins.
pub record FittingInst : Type 1 where
  pub f : FunctionValue
  pub env : MachineValue
  pub apart : AreKindsApart env
  pub Known : VirtualRegister → Type 0
  pub named : (v : VirtualRegister) → Known v → NamesClass f v.class
  pub i : ℕ
  pub inst : InstValue
  pub sound_ops : AreSoundOperands Known inst.operands
  pub fits : Fits f env inst
  pub old : StateValue
  pub h : AreSafe env Known old
  pub all : HasAll env old
  pub began : InstRegs
  pub s : StartsFree began old
  pub blank : List Place
  pub long : length blank ≡ length inst.operands
  pub none : (k : ℕ) → slice_index_or blank k NoPlace ≡ NoPlace

module _ (fitting : FittingInst) where
  open fitting use {f, env, apart, Known, named, i, inst, sound_ops, fits, old, h, all, began, s, blank, long, none}

  abbrev ops : List OperandValue
  ops = inst.operands

  abbrev Named : RegClass → Type 0
  Named = NamesClass f

  fixed : FixedAreKnown env ops
  fixed k r lt allocated is = fits.fixed k lt allocated r is

  abbrev operands : NamedOperands
  operands = named_operands Named env apart Known named ops sound_ops fixed i (ends_block inst)

  abbrev InLates : ℕ → ℕ → Type 0
  InLates = Late operands

  abbrev InEarlies : ℕ → ℕ → Type 0
  InEarlies = Early operands

  abbrev demand : Demand
  demand = demand_of Named (waiting ops blank) (after i) env apart Known named

  -- fixed registers and clobbers are held
  module _ (reserved held : InstRegs) (reserves : ReservesRegs ops began reserved old) (holds : RemovesClobbers inst.clobbers reserved held) where
    held_turn : AreSafeRegs env held
    held_turn = safe_turn env reserved held holds.scratch (safe_turn env began reserved reserves.scratch (fresh_turn env began s.scratch))

    enough_held : HasEnoughRegs Named (waiting ops blank) held old
    enough_held = held_ample f env inst fits old all began reserved held s reserves holds blank none

    never_in_fixed : EvictFixed (after i) ops held old no_register → ⊥
    never_in_fixed stops = never_after demand (fixed_evicts stops.done) stops.stops.1 h held_turn enough_held

    -- clobbers are emptied, after the fixed registers
    module _ (cleared : InstRegs) (m : StateValue) (clears : EvictsFixed (after i) ops held old (length ops) cleared m) where
      never_in_clobbers : EvictEach (after i) (registers_of inst.clobbers) cleared m no_register → ⊥
      never_in_clobbers stops =
          never_after demand (both_evicted cleared m (fixed_evicts clears) (each_evicts stops.clears)) stops.stops h held_turn enough_held

  -- all that is held is emptied
  module _ (quiet : InstRegs) (m : StateValue) (r : PreparesRegs i ops inst.clobbers began quiet old m) where
    evicts : Evictions (after i) r.held old quiet m
    evicts = both_evicted r.cleared r.middle (fixed_evicts r.fixed) (each_evicts r.emptied)

    quiet_left : LeavesEnough demand quiet m
    quiet_left = evictions_ample demand evicts h (held_turn r.reserved r.held r.reserves r.holds) (enough_held r.reserved r.held r.reserves r.holds)

    quiet_keeps : KeepsMachine old m
    quiet_keeps = keeps_machine_trans old r.middle m (machine_stays (evicts_fixed_changes (λ q s. tt) r.fixed))
        (machine_stays (evicts_each_changes (λ q s. tt) r.emptied))

    quiet_all : HasAll env m
    quiet_all = all_kept env old m quiet_keeps all

    quiet_less : Less r.reserved quiet
    quiet_less = less_trans r.reserved r.held quiet (holds_less inst.clobbers r.reserved r.held r.holds) (evictions_less evicts)

    -- a fixed register is no longer free
    fixed_register_is_not_free : (j : ℕ) (q : Register) → j < length ops → is_fixed_nonallocatable (op_at ops j) ≡ false → (op_at ops j).constraint ≡ FixedReg q →
        is_free m.allocatable quiet q ≡ false
    fixed_register_is_not_free j q lt allocated is = unfree_kept old.allocatable m.allocatable r.reserved quiet q quiet_keeps.allocatable quiet_less
        (elim (some_position (op_at ops j)) [
          | inl early ↦ (let gone = r.reserves.held_early j q (positions_of (op_at ops j)) lt (claims_own allocated is refl) early in
              and_right (has_register old.allocatable q) _ (and_left (has_register r.reserved.early q) (has_register r.reserved.late q) gone))
          | inr late ↦ (let gone = r.reserves.held_late j q (positions_of (op_at ops j)) lt (claims_own allocated is refl) late in
              and_right (has_register old.allocatable q) _ (and_right (has_register r.reserved.early q) (has_register r.reserved.late q) gone))
        ])

    filled : Filled env Known AllWrite AllMay ops (InLates 0) blank quiet m
    filled = record {
      safe = quiet_left.kept.safe;
      inst_regs = quiet_left.kept.inst_regs;
      long = long;
      good = λ j less d. (let z = d.0 in absurd (omega (arith, z)));
      shared = λ j n less d. (let z = d.0 in absurd (omega (arith, z)));
      waits = λ j less not_d. inl (none j);
      found = λ j less d. (let z = d.0 in absurd (omega (arith, z)));
    }

    paying : Paying Named ops (InLates 0) blank quiet m
    paying = record {
      ample = quiet_left.ample;
      awaited = λ c. r.awaited c ∙ sym (all_wait ops blank c none);
      placed_unfree = λ j q lt allocated at. elim at [
        | inl there ↦ absurd (no_place_not_register (slice_index_or blank j NoPlace) q (none j) there)
        | inr is ↦ fixed_register_is_not_free j q lt allocated is
      ];
      named = λ j q lt not_d there. absurd (no_place_not_register (slice_index_or blank j NoPlace) q (none j) there);
    }

    never_in_lates : ProcessOperandsAt i (ends_block inst) true ops blank quiet m no_register → ⊥
    never_in_lates stops = never_late operands blank quiet m quiet_all filled paying stops

    -- late operands are allocated
    module _ (half : List Place) (late : InstRegs) (n : StateValue)
        (lates : ProcessesOperandsAt i (ends_block inst) true ops blank quiet m (length ops) half late n) where
      half_all : HasAll env n
      half_all = all_kept env m n (machine_stays (processes_operands_at_changes (λ p q. tt) (λ j lt at. free_operand _) lates)) quiet_all

      half_filled : Filled env Known AllWrite AllMay ops (InEarlies 0) half late n
      half_filled = filled_same (filling_of env Known AllWrite AllMay ops sound_ops) (InLates (length ops)) (InEarlies 0) half late n
          (λ j less e. elim e [ inl is ↦ (less, is) | inr below ↦ absurd (omega (arith, below)) ]) (λ j less d. inl d.1)
          (late_operands_kept (passes_of (filling_of env Known AllWrite AllMay ops sound_ops) apart fixed i (ends_block inst) tt (defs_write i ops)) blank quiet
          m filled (length ops)
          half late n
          lates (omega arith))

      half_paying : Paying Named ops (InEarlies 0) half late n
      half_paying = paying_more Named ops (InLates (length ops)) (InEarlies 0) half late n (λ j less d. inl d.1)
          (late_operands_pay operands blank quiet m quiet_all filled paying (length ops) half late n
          lates
          (omega arith))

      never_in_earlies : ProcessOperandsAt i (ends_block inst) false ops half late n no_register → ⊥
      never_in_earlies stops = never_early operands half late n half_all half_filled
          half_paying stops

      -- early operands are allocated
      module _ (places : List Place) (early : InstRegs) (o : StateValue)
          (earlies : ProcessesOperandsAt i (ends_block inst) false ops half late n (length ops) places early o) where
        last_all : HasAll env o
        last_all = all_kept env n o (machine_stays (processes_operands_at_changes (λ p q. tt) (λ j lt at. free_operand _) earlies)) half_all

        last_filled : Filled env Known AllWrite AllMay ops (InEarlies (length ops)) places early o
        last_filled = early_operands_kept (passes_of (filling_of env Known AllWrite AllMay ops sound_ops) apart fixed i (ends_block inst) tt (defs_write i ops))
            half late n half_filled
            (length ops) places early o earlies (omega arith)

        last_ample : HasEnoughRegs Named none_needed early o
        last_ample = ample_less Named (waiting ops places) none_needed early o (λ c. omega arith)
            (early_operands_pay operands half late n half_all half_filled half_paying (length ops)
            places
            early o earlies (omega arith)).ample

        never_in_moves : MoveUses (before i) ops places early o no_register → ⊥
        never_in_moves stops = never_move_uses (demand_of Named none_needed (before i) env apart Known named) ops sound_ops places early o last_filled.safe last_all
            last_filled.inst_regs
            (λ j less reads. (last_filled.good j less (inr less)).place (reads_allocated (op_at ops j) reads))
            (λ j less reads. last_filled.found j less (inr less) reads) last_ample stops

        -- uses are moved
        pub ended_ample : (ended : InstRegs) (new : StateValue) → MovesUses (before i) ops places early o (length ops) ended new
            → HasEnoughRegs Named none_needed ended new
        ended_ample ended new moves = ample_moves_uses (demand_of Named none_needed (before i) env apart Known named) ops sound_ops places early o last_filled.safe
            last_all
            last_filled.inst_regs
            (λ j less reads. (last_filled.good j less (inr less)).place (reads_allocated (op_at ops j) reads))
            (λ j less reads. last_filled.found j less (inr less) reads) last_ample moves (omega arith)

  -- the registers of a fitting instruction are prepared
  never_prepare_regs : PrepareRegs i ops inst.clobbers began old no_register → ⊥
  never_prepare_regs (in_reserve stops) = never_reserve_regs f env inst fits Known sound_ops old all stops
  never_prepare_regs (in_fixed reserved held reserves holds stops) = never_in_fixed reserved held reserves holds stops
  never_prepare_regs (in_clobbers reserved held cleared m reserves holds clears stops) = never_in_clobbers reserved held reserves holds cleared m clears stops

  -- an instruction that fits never fails
  pub never_alloc_inst : AllocInst i ops inst.clobbers (ends_block inst) blank began old no_register → ⊥
  never_alloc_inst (in_prepare stops) = never_prepare_regs stops
  never_alloc_inst (in_lates quiet m r stops) = never_in_lates quiet m r stops
  never_alloc_inst (in_earlies quiet late m n half r lates stops) = never_in_earlies quiet m r half late n lates stops
  never_alloc_inst (in_moves quiet late early m n o half places r lates earlies stops) = never_in_moves quiet m r half late n lates places early o earlies stops
