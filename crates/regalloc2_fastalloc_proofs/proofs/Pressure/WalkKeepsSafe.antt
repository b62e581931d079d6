-- The walk keeps the machine's registers, and the tables safe.
use Rattle.std.proofs.Common.{ℕ, ◌<◌, List, length, refl, sym, subst, inl, inr, arith, slice_index_or}
use Rattle.std.proofs.lemmas.Bool.{cases_Bool}
use Rattle.regalloc2_names.specs.Register.{VirtualRegister, no_vreg}
use Rattle.regalloc2_names.specs.Place.{Place, before}
use Rattle.regalloc2_function.specs.FunctionValue.{FunctionValue, InstValue, block_at, inst_at}
use Rattle.regalloc2_function.specs.Machine.{MachineValue}
use Rattle.regalloc2_function.specs.WellFormed.{BlocksFollow}
use Rattle.regalloc2_function.proofs.Following.{end_within}
use Rattle.regalloc2_semantics.specs.Sound.{target_at}
use Rattle.regalloc2_analysis.specs.BranchDefs.BranchDefs.{IsEdgeInto}
use Rattle.regalloc2_fastalloc_proofs.specs.InstSteps.{StateValue, AllocsInst}
use Rattle.regalloc2_fastalloc_proofs.specs.BlockSteps.{AllocsInstInBlock, AllocsBlockInsts, at_end, one_in, AllocsBlocks, all_left, one_block}
use Rattle.regalloc2_fastalloc_proofs.proofs.Safety.StepsKeepSafe.{AreKindsApart, rules_of}
use Rattle.regalloc2_fastalloc_proofs.proofs.Operands.AllocsSoFar.{AreSoundOperands, UsesAreWritten}
use Rattle.regalloc2_fastalloc_proofs.proofs.Safety.InstKeepsSafe.{InstKept, allocs_inst_kept}
use Rattle.regalloc2_fastalloc_proofs.proofs.Safety.BlockStartKeepsSafe.{reloads_at_begin_kept}
use Rattle.regalloc2_fastalloc_proofs.proofs.Safety.BranchKeepsSafe.{processes_branch_kept}
use Rattle.regalloc2_fastalloc_proofs.specs.Pressure.EnoughRegs.{AllWrite, AllMay, AreSafe}
use Rattle.regalloc2_fastalloc_proofs.proofs.Pressure.TablesHaveAllRegs.{HasAll, all_kept}
use Rattle.regalloc2_fastalloc_state.specs.StateParts.{SpillSlotsValue}
use Rattle.regalloc2_fastalloc_proofs.specs.StoreSteps.{IsConcerned, IsStoredFor}
use Rattle.regalloc2_fastalloc_proofs.proofs.Safety.StoresKeepSafe.{IsAlike, stores_branch_defs_kept}
use Rattle.regalloc2_fastalloc_proofs.proofs.Safety.StepsKeepMachine.{machine_stays}
use Rattle.regalloc2_fastalloc_proofs.proofs.Changes.WalkChanges.{free_inst, free_begin, allocs_inst_in_block_changes, begins_block_changes}
use Rattle.regalloc2_fastalloc_proofs.proofs.Pressure.PassesLeaveEnough.{defs_write}

-- the tables have all registers, and are safe
pub record IsCompleteAndSafe (env : MachineValue) (Known : VirtualRegister → Type 0) (t : StateValue) : Type 0 where
  pub all : HasAll env t
  pub safe : AreSafe env Known t

-- reads may write any slot
uses_write : (i : ℕ) (inst : InstValue) (places : List Place) → UsesAreWritten AllWrite i inst.operands places
uses_write i inst places k n less reads is = tt

-- where all writes to slots are allowed, this one is
pub every_write : (point : ℕ) (v : VirtualRegister) → Unit {0} → (n : ℕ) → AllWrite point v n
every_write point v is n = tt

module _ (env : MachineValue) (apart : AreKindsApart env) (Known : VirtualRegister → Type 0) (f : FunctionValue) (follow : BlocksFollow f)
    (sound_ops : (i : ℕ) → i < length f.insts → AreSoundOperands Known (inst_at f i).operands)
    (params : (b k : ℕ) → b < length f.blocks → k < length (block_at f b).params → Known (slice_index_or (block_at f b).params k no_vreg))
    (targets : (b k : ℕ) → b < length f.blocks → k < length (block_at f b).succs → target_at f b k < length f.blocks)
    (concerned : (b e k : ℕ) (v : VirtualRegister) → IsEdgeInto f b e k → IsConcerned f e k v → Known v)
    (alike : (b e k j : ℕ) (v : VirtualRegister) (slots : SpillSlotsValue) → IsEdgeInto f b e k → IsStoredFor f e k slots j v → IsAlike env f e j v) where
  -- an instruction
  pub inst_kept : {i : ℕ} → i < length f.insts → {blank places : List Place} {old new : StateValue} → (a : AllocsInst i (inst_at f i) blank places old new) →
      AreSafe env Known old → InstKept env Known AllWrite AllMay (inst_at f i).operands places a.ended new
  inst_kept {i} lt {blank} {places} {old} {new} a h =
      allocs_inst_kept apart (inst_at f i) tt tt (sound_ops i lt) (defs_write i (inst_at f i).operands)
      (uses_write i (inst_at f i) places) a h

  allocs_inst_in_block_sound : (b i : ℕ) → b < length f.blocks → i < length f.insts → (before_it places : List Place) (old new : StateValue) →
      AllocsInstInBlock f b i before_it places old new → IsCompleteAndSafe env Known old → IsCompleteAndSafe env Known new
  allocs_inst_in_block_sound b i small lt before_it places old new a s =
      let k = inst_kept lt a.allocates.allocates s.safe in
      record {
        all = all_kept env old new (machine_stays (allocs_inst_in_block_changes (free_inst f b i) a)) s.all;
        safe = elim (cases_Bool (inst_at f i).is_branch) [
          | inl branch ↦ (processes_branch_kept (rules_of env apart Known AllWrite AllMay (before i) tt) (λ v. Unit {0}) (every_write (before i)) f b i refl
              (λ e j edge within. (params (target_at f b e) j (targets b e small edge) within, tt))
              a.allocates.allocates.ended a.inst_regs a.middle new (a.branch branch) k.safe k.inst_regs).safe
          | inr none ↦ subst (AreSafe env Known) (sym (a.no_branch none)) k.safe
        ];
      }

  -- the instructions of a block
  pub allocs_block_insts_sound : {b : ℕ} → b < length f.blocks → {blank : List Place} {old : StateValue} → IsCompleteAndSafe env Known old →
      {i : ℕ} {places : List Place} {t : StateValue} → AllocsBlockInsts f b blank old i places t → IsCompleteAndSafe env Known t
  allocs_block_insts_sound lt s at_end = s
  allocs_block_insts_sound {b} lt {blank} {old} s {places} {t} (one_in n before_it p m u ge less prev a) =
      let end = end_within f follow b lt in
      allocs_inst_in_block_sound b n lt (omega (arith, end, less)) before_it places m t a (allocs_block_insts_sound lt s prev)

  -- all blocks
  pub allocs_blocks_sound : {blank : List Place} {old : StateValue} → IsCompleteAndSafe env Known old → {c : ℕ} {places : List Place} {t : StateValue} →
      AllocsBlocks f blank old c places t → IsCompleteAndSafe env Known t
  allocs_blocks_sound s all_left = s
  allocs_blocks_sound {blank} {old} s {t} (one_block b before_it p m u w lt prev walks begins) =
      let x = allocs_block_insts_sound lt (allocs_blocks_sound s prev) walks in
      record {
        all = all_kept env u t (machine_stays (begins_block_changes (free_begin f b) begins)) x.all;
        safe = (stores_branch_defs_kept env Known AllWrite AllMay f b tt (concerned b) (alike b) (λ e k v n edge is. tt) begins.middle t begins.stores
            (reloads_at_begin_kept (rules_of env apart Known AllWrite AllMay (before (block_at f b).range.first) tt) (block_at f b).params
            (λ j within. params b j lt within) u begins.middle begins.reloads x.safe).safe);
      }
