-- At a block's start registers suffice: all registers are available, and nothing is needed but the reserved scratch
-- register.
use Rattle.std.proofs.Common.{ℕ, ◌≡◌, ◌≢◌, ◌<◌, true, List, length, slice_index_or}
use Rattle.std.specs.Prelude.{not}
use Rattle.regalloc2_names.specs.Register.{VirtualRegister, no_vreg}
use Rattle.regalloc2_names.specs.Place.{Place, NoPlace, is_place}
use Rattle.regalloc2_function.specs.FunctionValue.{FunctionValue}
use Rattle.regalloc2_function.specs.Machine.{MachineValue}
use Rattle.regalloc2_function.specs.Fitting.{MachineFits, NamesClass}
use Rattle.regalloc2_fastalloc_state.specs.declared.inst_regs.InstRegs.{InstRegs}
use Rattle.regalloc2_fastalloc_state.specs.StateParts.{GetsSpillSlot, alloc_of}
use Rattle.regalloc2_fastalloc_proofs.specs.InstSteps.{StateValue, Outcome, no_register, IsFresh}
use Rattle.regalloc2_fastalloc_proofs.specs.BlockStart.{ReloadParam, nowhere, comes, ReloadsParams, none_begun, one_begun}
use Rattle.regalloc2_fastalloc_proofs.specs.BlockStart.{ReloadParams, ReloadRegs, ReloadAtBegin, at_parameter, at_register}
use Rattle.regalloc2_fastalloc_proofs.specs.Safety.{IsEndOfMove, AreSafeRegs}
use Rattle.regalloc2_fastalloc_proofs.proofs.Safety.StepsKeepSafe.{AreKindsApart, StepKept, own_slot_is_end, may_be_located_is_end, may_be_located_if_place, rules_of}
use Rattle.regalloc2_fastalloc_proofs.proofs.Slots.SlotsGrow.{gives_stay, end_grows}
use Rattle.regalloc2_fastalloc_proofs.proofs.Safety.BlockStartKeepsSafe.{reloads_params_kept}
use Rattle.regalloc2_fastalloc_proofs.proofs.Safety.InstKeepsSafe.{fresh_turn}
use Rattle.regalloc2_fastalloc_proofs.specs.Pressure.EnoughRegs.{HasEnoughRegs, LeavesEnoughRegs, none_needed, AllWrite, AllMay, AreSafe}
use Rattle.regalloc2_fastalloc_proofs.proofs.Safety.StepsKeepMachine.{keeps_of, machine_stays}
use Rattle.regalloc2_fastalloc_proofs.proofs.Pressure.TablesHaveAllRegs.{HasAll, all_kept}
use Rattle.regalloc2_fastalloc_proofs.proofs.Pressure.OneRegTaken.{ample_none, ample_kept}
use Rattle.regalloc2_fastalloc_proofs.proofs.Pressure.StepsLeaveEnough.{ample_add_move_if, Demand, demand_of}
use Rattle.regalloc2_fastalloc_proofs.proofs.Pressure.EvictionsLeaveEnough.{not_is_place_differs, never_after}
use Rattle.regalloc2_fastalloc_proofs.proofs.Pressure.EnoughAtStart.{StartsFree, fresh_ample}
use Rattle.regalloc2_fastalloc_proofs.proofs.Changes.WalkChanges.{reloads_params_changes}
use Rattle.regalloc2_fastalloc_proofs.proofs.Changes.Evictions.{regs_evict}

-- if the available registers are fresh, all of the machine's are available, and no scratch register is taken
pub starts_fresh : (inst_regs : InstRegs) (t : StateValue) → IsFresh inst_regs t → StartsFree inst_regs t
starts_fresh inst_regs t f = record { early = f.early; late = f.late; scratch = f.scratch }

module _ (demand : Demand) where
  open demand use {Named, needed, point, env, apart, Known, named}

  -- the ends of a parameter's move
  parameter_ends : (v : VirtualRegister) (s : Place) (old m : StateValue) → Known v → AreSafe env Known old → GetsSpillSlot old.slots m.slots v s →
      alloc_of old.places v.number ≢ NoPlace → not (is_place s (alloc_of old.places v.number)) ≡ true
      → IsEndOfMove env m.slots v s × IsEndOfMove env m.slots v (alloc_of old.places v.number) × (s ≡ alloc_of old.places v.number → ⊥)
  parameter_ends v s old m known h gives there made = (
    own_slot_is_end env m.slots v s gives.gives gives.there gives.below,
    end_grows env old.slots m.slots v (alloc_of old.places v.number) (gives_stay old.slots m.slots v s gives)
        (may_be_located_is_end env old.slots v (alloc_of old.places v.number) (may_be_located_if_place env old.slots v (alloc_of old.places v.number) there (h.places v known))),
    not_is_place_differs s (alloc_of old.places v.number) made,
  )

  -- a parameter
  ample_reload_param : {v : VirtualRegister} {t : InstRegs} {old : StateValue} {o : Outcome InstRegs} → ReloadParam point v t old o → Known v →
      AreSafe env Known old → HasAll env old → AreSafeRegs env t → HasEnoughRegs Named needed t old → LeavesEnoughRegs Named needed o
  ample_reload_param {t} {old} (nowhere {u} {new} none eu en) known h all ht a = ample_none Named needed t u old new eu en a
  ample_reload_param {v} {t} {old} (comes s m there gives sets_alloc edits machine order sends) known h all ht a =
      ample_add_move_if demand v sends known
      (parameter_ends v s old m known h gives there) (all_kept env old m (keeps_of old m machine) all) ht
      (ample_kept Named needed t old m (keeps_of old m machine) a)

  -- all parameters
  module _ (params : List VirtualRegister) (known : (k : ℕ) → k < length params → Known (slice_index_or params k no_vreg)) (t : InstRegs) (old : StateValue)
      (h : AreSafe env Known old) (all : HasAll env old) (ht : AreSafeRegs env t) (a : HasEnoughRegs Named needed t old) where
    -- reloading a block's first k parameters keeps the state safe
    pub reloads_params_part : {k : ℕ} {u : InstRegs} {m : StateValue} → ReloadsParams point params t old k u m → StepKept env Known AllWrite AllMay u m
    reloads_params_part {k} {u} {m} begun = reloads_params_kept (rules_of env apart Known AllWrite AllMay point tt) params known t old h ht k u m begun

    -- reloading a block's first k parameters leaves enough registers
    pub ample_reloads_params : {k : ℕ} {u : InstRegs} {m : StateValue} → ReloadsParams point params t old k u m → HasEnoughRegs Named needed u m
    ample_reloads_params none_begun = a
    ample_reloads_params {u} {m = new} (one_begun j w x m n lt prev one) =
        let p = reloads_params_part prev in
        ample_reload_param one (known j lt) p.safe
        (all_kept env old m (machine_stays (reloads_params_changes (λ q r. tt) (λ n lt. tt) prev)) all) p.inst_regs (ample_reloads_params prev)

    -- if registers are enough, no parameter's reload lacks one
    pub never_reload_params : ReloadParams point params t old no_register → ⊥
    never_reload_params s =
        let p = reloads_params_part s.done in
        ample_reload_param s.stops (known s.index s.inside) p.safe
        (all_kept env old s.middle (machine_stays (reloads_params_changes (λ q r. tt) (λ n lt. tt) s.done)) all) p.inst_regs (ample_reloads_params s.done)

  -- all registers
  module _ (t : InstRegs) (old : StateValue) (h : AreSafe env Known old) (ht : AreSafeRegs env t) (a : HasEnoughRegs Named needed t old) where
    -- if registers are enough, no reload at a block's start lacks one
    pub never_reload_regs : ReloadRegs point t old no_register → ⊥
    never_reload_regs s = never_after demand (regs_evict s.empties) s.stops h ht a

-- a block's start never fails
pub never_reload_at_begin : (f : FunctionValue) (env : MachineValue) → MachineFits f env →
    (apart : AreKindsApart env) (Known : VirtualRegister → Type 0) (named : (v : VirtualRegister) → Known v → NamesClass f v.class) (point : ℕ)
    (params : List VirtualRegister)
    → ((k : ℕ) → k < length params → Known (slice_index_or params k no_vreg)) → (old : StateValue) → AreSafe env Known old → HasAll env old →
    ReloadAtBegin point params old no_register → ⊥
never_reload_at_begin f env fits apart Known named point params known old h all (at_parameter began fresh s) =
    never_reload_params (demand_of (NamesClass f) none_needed point env apart Known named) params known began old h all (fresh_turn env began fresh.scratch)
    (fresh_ample f env fits began old all (starts_fresh began old fresh)) s
never_reload_at_begin f env fits apart Known named point params known old h all (at_register began begun m fresh parameters s) =
    let ht = fresh_turn env began fresh.scratch in
    let a = fresh_ample f env fits began old all (starts_fresh began old fresh) in
    let p = reloads_params_part (demand_of (NamesClass f) none_needed point env apart Known named) params known began old h all ht a parameters in
    never_reload_regs (demand_of (NamesClass f) none_needed point env apart Known named) begun m p.safe p.inst_regs
    (ample_reloads_params (demand_of (NamesClass f) none_needed point env apart Known named) params known began old h all ht a parameters) s
