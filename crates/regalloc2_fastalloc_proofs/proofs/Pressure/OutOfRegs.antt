-- A walk that runs out of registers does so at an instruction that doesn't fit.
use Rattle.std.proofs.Common.{ℕ, zero, suc, ◌≡◌, ◌<◌, Bool, true, false, List, [], ◌∷◌, length, refl, ap, inl, inr, arith, slice_index_or}
use Rattle.std.specs.Prelude.{Any as SomeIn}
use Rattle.std.proofs.lemmas.List.Elements.{All-get_or}
use Rattle.regalloc2_names.specs.declared.RegClass.{RegClass}
use Rattle.regalloc2_names.specs.Register.{Register, VirtualRegister, no_vreg, has_register}
use Rattle.regalloc2_names.specs.Operand.{OperandValue, is_fixed_nonallocatable}
use Rattle.regalloc2_names.specs.Place.{Place, NoPlace, before}
use Rattle.regalloc2_fastalloc_state.specs.declared.inst_regs.InstRegs.{InstRegs}
use Rattle.regalloc2_function.specs.FunctionValue.{FunctionValue, IsLimited, block_at, inst_at, no_operand, op_at, last_of}
use Rattle.regalloc2_function.specs.Machine.{MachineValue, is_allocatable}
use Rattle.regalloc2_semantics.specs.Runs.{arguments_at}
use Rattle.regalloc2_semantics.specs.Fits.{Fits}
use Rattle.regalloc2_function.specs.Fitting.{MachineFits, NamesClass}
use Rattle.regalloc2_function.proofs.Following.{end_within}
use Rattle.regalloc2_function.specs.WellFormed.{IsWellFormed}
use Rattle.regalloc2_semantics.specs.Sound.{target_at}
use Rattle.regalloc2_analysis.specs.BranchDefs.BranchDefs.{IsEdgeInto}
use Rattle.regalloc2_carry.proofs.SingleDef.{Made, by_operand}
use Rattle.regalloc2_fastalloc_state.specs.StateParts.{SpillSlotsValue, no_allocs, no_slots, units_of}
use Rattle.regalloc2_fastalloc_state.specs.Validate.NoLimits.{AreTaken}
use Rattle.regalloc2_fastalloc_proofs.specs.InstSteps.{StateValue, no_register, AllocsInst}
use Rattle.regalloc2_fastalloc_proofs.specs.BlockSteps.{AllocInstInBlock, in_inst, in_pass, AllocBlocks, in_block, at_beginning, BeginBlock, at_reloads}
use Rattle.regalloc2_fastalloc_proofs.specs.BlockSteps.{at_stores}
use Rattle.regalloc2_fastalloc_proofs.specs.Safety.{HasMachine}
use Rattle.regalloc2_fastalloc_proofs.proofs.Safety.StepsKeepSafe.{AreKindsApart}
use Rattle.regalloc2_fastalloc_proofs.proofs.Moves.ScratchRegTaken.{Fit}
use Rattle.regalloc2_fastalloc_proofs.proofs.Safety.InitialState.{begun_safe}
use Rattle.regalloc2_fastalloc_proofs.proofs.Operands.AllocsSoFar.{AreSoundOperands}
use Rattle.regalloc2_fastalloc_proofs.proofs.Safety.OutputOfWalk.{machine_apart}
use Rattle.regalloc2_fastalloc_proofs.proofs.Safety.WellFormedKeepsSafe.{sound_ops_at}
use Rattle.regalloc2_fastalloc_proofs.specs.Pressure.EnoughRegs.{HasEnoughRegs, none_needed, AllWrite, AllMay}
use Rattle.regalloc2_fastalloc_proofs.proofs.Pressure.TablesHaveAllRegs.{all_kept}
use Rattle.regalloc2_fastalloc_proofs.proofs.Pressure.EnoughAtStart.{StartsFree}
use Rattle.regalloc2_fastalloc_proofs.proofs.Pressure.InstFindsRegs.{FittingInst, ended_ample, never_alloc_inst}
use Rattle.regalloc2_fastalloc_proofs.proofs.Safety.StepsKeepMachine.{machine_stays}
use Rattle.regalloc2_fastalloc_proofs.proofs.Changes.InstChanges.{free_operand, allocs_inst_changes}
use Rattle.regalloc2_fastalloc_proofs.proofs.Changes.WalkChanges.{reloads_at_begin_changes}
use Rattle.regalloc2_fastalloc_proofs.specs.StoreSteps.{branch_operands, IsStoredFor}
use Rattle.regalloc2_fastalloc_proofs.proofs.Safety.StoresKeepSafe.{IsAlike, stored_defines}
use Rattle.regalloc2_fastalloc_proofs.proofs.Safety.StoredDefs.{concerned_made, last_within, stored_of_class}
use Rattle.regalloc2_fastalloc_proofs.proofs.Pressure.BranchRegsKnown.{FixedKnown, all_known_or}
use Rattle.regalloc2_fastalloc_proofs.proofs.Pressure.WalkKeepsSafe.{IsCompleteAndSafe, inst_kept, allocs_block_insts_sound, allocs_blocks_sound}
use Rattle.regalloc2_fastalloc_proofs.proofs.Pressure.BranchFindsRegs.{never_process_branch, some_from}
use Rattle.regalloc2_fastalloc_proofs.proofs.Pressure.BlockStartFindsRegs.{starts_fresh, never_reload_at_begin}

-- a property of the element at an index holds of some element
some_at : {X : Type 0} (P : X → Type 0) (xs : List X) (k : ℕ) (d : X) → k < length xs → P (slice_index_or xs k d) → SomeIn P xs
some_at P [] k d lt p = absurd (omega arith)
some_at P (x ∷ xs) zero d lt p = (0, x, omega arith, refl, p)
some_at P (x ∷ xs) (suc k) d lt p = (let s = some_at P xs k d (omega (arith, lt)) p in (suc s.0, s.1, (let l = s.2 in omega (arith, l)), s.3, s.4))

-- a vreg that is made names its class
made_names : (f : FunctionValue) → ((i : ℕ) → i < length f.insts → AreSoundOperands (Made f) (inst_at f i).operands) → (v : VirtualRegister) → Made f v →
    NamesClass f v.class
made_names f sound_ops v (by_operand i k at is) = inl (
  i,
  at.inst,
  some_at (λ (o : OperandValue). (is_fixed_nonallocatable o ≡ false) × (o.vreg.class ≡ v.class)) (inst_at f i).operands k no_operand at.operand
      ((sound_ops i at.inst).allocated k at.operand at.definition, ap (λ (w : VirtualRegister). w.class) is),
)
made_names f sound_ops v (Made.by_param b k at is) =
    inr (
      b,
      at.block,
      inl (some_at (λ (w : VirtualRegister). w.class ≡ v.class) (block_at f b).params k no_vreg at.param
          (ap (λ (w : VirtualRegister). w.class) is)),
    )

module _ (f : FunctionValue) (env : MachineValue) (fits : MachineFits f env) (limited : IsLimited f) (ok : IsWellFormed env f) (taken : AreTaken f)
    (alike : (b e k j : ℕ) (v : VirtualRegister) (slots : SpillSlotsValue) → IsEdgeInto f b e k → IsStoredFor f e k slots j v → IsAlike env f e j v) where
  apart : AreKindsApart env
  apart = machine_apart f env fits

  sound_ops : (i : ℕ) → i < length f.insts → AreSoundOperands (Made f) (inst_at f i).operands
  sound_ops = sound_ops_at env f limited ok taken

  named : (v : VirtualRegister) → Made f v → NamesClass f v.class
  named = made_names f sound_ops

  params : (b k : ℕ) → b < length f.blocks → k < length (block_at f b).params → Made f (slice_index_or (block_at f b).params k no_vreg)
  params b k lt less = Made.by_param b k (record { block = lt; param = less; number = refl }) refl

  targets : (b k : ℕ) → b < length f.blocks → k < length (block_at f b).succs → target_at f b k < length f.blocks
  targets b k lt less = All-get_or (λ s. s < length f.blocks) (block_at f b).succs k 0 less (ok.successors.1 b lt)

  -- an argument names its class
  arguments_name : (b k j : ℕ) → b < length f.blocks → k < length (block_at f b).succs → j < length (block_at f (target_at f b k)).params →
      NamesClass f (slice_index_or (arguments_at f b k) j no_vreg).class
  arguments_name b k j lt edge within =
      let c : RegClass = (slice_index_or (arguments_at f b k) j no_vreg).class in
      let counted : length (arguments_at f b k) ≡ length (block_at f (target_at f b k)).params = ok.counted b lt k edge in
      inr (
        b,
        lt,
        inr (
          k,
          (ok.follow b lt).0,
          end_within f ok.follow b lt,
          edge,
          some_at (λ (v : VirtualRegister). v.class ≡ c) (arguments_at f b k) j no_vreg (omega (arith, counted, within)) refl,
        ),
      )

  -- an instruction that fits, and the moves of its branch
  module _ (b i : ℕ) (lt : b < length f.blocks) (less : i < length f.insts) (inst_fits : Fits f env (inst_at f i)) (old : StateValue)
      (s : IsCompleteAndSafe env (Made f) old) where
    -- an instruction that fits, with the registers and the list of places with which it begins
    abbrev fitting : (began : InstRegs) → StartsFree began old → (blank : List Place) → length blank ≡ length (inst_at f i).operands →
        ((k : ℕ) → slice_index_or blank k NoPlace ≡ NoPlace) → FittingInst
    fitting began starts blank long none = record {
      f = f;
      env = env;
      apart = apart;
      Known = Made f;
      named = named;
      i = i;
      inst = inst_at f i;
      sound_ops = sound_ops i less;
      fits = inst_fits;
      old = old;
      h = s.safe;
      all = s.all;
      began = began;
      s = starts;
      blank = blank;
      long = long;
      none = none;
    }

    -- the reserved scratch register is left for the branch
    left_ample : (blank places : List Place) (new : StateValue) → (a : AllocsInst i (inst_at f i) blank places old new) →
        HasEnoughRegs (NamesClass f) none_needed a.ended new
    left_ample blank places new a =
        ended_ample (fitting a.began (starts_fresh a.began old a.fresh) blank a.long a.no_places) a.quiet
        a.after_clobbers a.prepares
        a.half a.late a.after_late a.lates places a.early a.after_early a.earlies a.ended new a.moves

    never_alloc_inst_in_block : (before_it : List Place) → AllocInstInBlock f b i before_it old no_register → ⊥
    never_alloc_inst_in_block before_it (in_inst t fresh stops) = never_alloc_inst (fitting t (starts_fresh t old fresh) stops.0 stops.1 stops.2) stops.3
    never_alloc_inst_in_block before_it (in_pass places m a branch stops) =
        let k = inst_kept env apart (Made f) f ok.follow sound_ops params targets (concerned_made f ok.successors ok.follow) alike less
        a.allocates s.safe in
        never_process_branch fits apart (Made f) named none_needed (λ e j edge within. (params (target_at f b e) j (targets b e lt edge) within, tt))
        (λ e j edge within. arguments_name b e j lt edge within) k.safe
        (all_kept env old m (machine_stays (allocs_inst_changes (λ p q. tt) (λ p q. tt) (λ k at. free_operand _) a.allocates))
        s.all) k.inst_regs
        (left_ample a.blank a.here m a.allocates) stops

  -- the start of a block
  never_begin_block : (b : ℕ) → b < length f.blocks → (old : StateValue) → IsCompleteAndSafe env (Made f) old → BeginBlock f b old no_register → ⊥
  never_begin_block b lt old s (at_reloads stops) = never_reload_at_begin f env fits apart (Made f) named (before (block_at f b).range.first)
      (block_at f b).params
      (λ k less. params b k lt less) old s.safe s.all stops
  never_begin_block b lt old s (at_stores m reloads stops) =
      let all = all_kept env old m (machine_stays (reloads_at_begin_changes (λ p q. tt) (λ k at. tt) reloads)) s.all in
      let d = stored_defines f stops.from stops.position m.slots stops.index stops.vreg stops.stored in
      let made = concerned_made f ok.successors ok.follow b stops.from stops.position (op_at (branch_operands f stops.from) stops.index).vreg stops.edge
      (inl (stops.index, d, refl)) in
      some_from f env fits m all (op_at (branch_operands f stops.from) stops.index).vreg.class stops.none (named _ made)

  -- the instruction at which the walk fails
  stops_there : (blank : List Place) (old : StateValue) → IsCompleteAndSafe env (Made f) old → AllocBlocks f blank old no_register → (i : ℕ) × (i < length f.insts)
      × (Fits f env (inst_at f i) → ⊥)
  stops_there blank old s (in_block b places m lt walks stops) =
      let end = end_within f ok.follow b lt in
      let inside = stops.inside in
      let less : stops.index < length f.insts = omega (arith, end, inside) in
      let first = allocs_blocks_sound env apart (Made f) f ok.follow sound_ops params targets (concerned_made f ok.successors ok.follow) alike s walks in
      let here = allocs_block_insts_sound env apart (Made f) f ok.follow sound_ops params targets (concerned_made f ok.successors ok.follow) alike lt first
      stops.walks in
      (stops.index, less, λ inst_fits. never_alloc_inst_in_block b stops.index lt less inst_fits stops.middle here stops.places stops.stops)
  stops_there blank old s (at_beginning b places there m n lt walks walked stops) =
      let first = allocs_blocks_sound env apart (Made f) f ok.follow sound_ops params targets (concerned_made f ok.successors ok.follow) alike s walks in
      absurd (never_begin_block b lt n (allocs_block_insts_sound env apart (Made f) f ok.follow sound_ops params targets
      (concerned_made f ok.successors ok.follow) alike lt first
      walked) stops)

-- the tables with which the walk begins
pub record AreFresh (env : MachineValue) (old : StateValue) : Type 0 where
  pub vregs : ℕ
  pub owners : ℕ
  pub sizes : List ℕ
  pub by_last : Bool
  pub watched : List Bool
  pub none_held : old.places ≡ no_allocs vregs watched
  pub slots : old.slots ≡ no_slots owners sizes by_last
  pub none : old.edits ≡ []
  pub units : (c : RegClass) → 0 < units_of (no_slots owners sizes by_last) c
  pub machine : HasMachine env old
  pub fit : Fit old
  pub allocatable : (r : Register) → is_allocatable env r.class r ≡ true → has_register old.allocatable r ≡ true
  pub dedicated_scratch : old.dedicated_scratch ≡ env.scratch

-- From the tables with which the walk begins: if the walk runs out of registers, it does so at an instruction that
-- doesn't fit.
pub walk_stops : {f : FunctionValue} {env : MachineValue} → MachineFits f env → IsLimited f → IsWellFormed env f → AreTaken f
    → {blank : List Place} {old : StateValue} → AreFresh env old → AllocBlocks f blank old no_register →
    (i : ℕ) × (i < length f.insts) × (Fits f env (inst_at f i) → ⊥)
walk_stops {f} {env} fits limited ok taken {blank} {old} fresh stops =
    elim (all_known_or env f (Made f) old fresh.machine (sound_ops_at env f limited ok taken)) [
      | inr one ↦ one
      | inl known ↦ stops_there f env fits limited ok taken (alike_known known) blank old
          (record {
            all = record {
              machine = fresh.machine;
              fit = fresh.fit;
              allocatable = fresh.allocatable;
              dedicated_scratch = fresh.dedicated_scratch;
            };
            safe = begun_safe env (Made f) AllWrite AllMay old fresh.vregs fresh.owners fresh.sizes fresh.by_last fresh.none_held fresh.slots fresh.none
                fresh.units fresh.machine;
          }) stops
    ]
  where
    alike_known : ((i : ℕ) → i < length f.insts → FixedKnown env f i) → (b e k j : ℕ) (v : VirtualRegister) (s : SpillSlotsValue) → IsEdgeInto f b e k →
        IsStoredFor f e k s j v → IsAlike env f e j v
    alike_known known b e k j v s edge is =
        let c = stored_of_class env f limited ok taken b e k j v s edge is in
        let d = stored_defines f e k s j v is in record {
          class = c.class;
          fixed = λ r at. (known (last_of (block_at f e)) (last_within f ok.follow e edge.block) j d.operand d.definition r at, c.fixed r at);
        }
