-- What the walk over all blocks keeps.
-- The fold in `Changes` doesn't apply: what holds depends on how far the walk is.
use Rattle.std.proofs.Common.{ℕ, ◌≡◌, ◌+◌, ◌-◌, ◌<◌, ◌≤◌, ◌⊎◌, List, true, length, slice_index_or, refl, sym, ap, ◌∙◌, inl, inr, subst, arith}
use Rattle.std.proofs.lemmas.Bool.{cases_eq, cases_Bool}
use Rattle.regalloc2_names.specs.Register.{VirtualRegister, no_vreg}
use Rattle.regalloc2_names.specs.Place.{Place, before, after}
use Rattle.regalloc2_function.specs.FunctionValue.{FunctionValue, InstValue, block_at, inst_at, op_at}
use Rattle.regalloc2_function.specs.Machine.{MachineValue}
use Rattle.regalloc2_names.specs.Operand.{is_def}
use Rattle.regalloc2_function.specs.WellFormed.{BlocksFollow}
use Rattle.regalloc2_function.proofs.Following.{end_within}
use Rattle.regalloc2_semantics.specs.Sound.{target_at}
use Rattle.regalloc2_analysis.specs.BranchDefs.BranchDefs.{IsEdgeInto}
use Rattle.regalloc2_fastalloc_state.specs.declared.inst_regs.InstRegs.{InstRegs}
use Rattle.regalloc2_fastalloc_proofs.specs.InstSteps.{StateValue, ends_block}
use Rattle.regalloc2_fastalloc_state.specs.StateParts.{SpillSlotsValue}
use Rattle.regalloc2_fastalloc_proofs.specs.StoreSteps.{IsConcerned, IsStoredFor}
use Rattle.regalloc2_fastalloc_proofs.specs.BranchSteps.{ProcessesBranch}
use Rattle.regalloc2_fastalloc_proofs.specs.Safety.{IsSafe, AreSafeRegs}
use Rattle.regalloc2_fastalloc_proofs.specs.BlockSteps.{AllocsInstInBlock, AllocsBlockInsts, at_end, one_in, AllocsBlocks, all_left, one_block}
use Rattle.regalloc2_fastalloc_proofs.proofs.Safety.StepsKeepSafe.{AreKindsApart, StepKept, rules_of}
use Rattle.regalloc2_fastalloc_proofs.proofs.Slots.SlotsGrow.{SlotsStay, changes_stay}
use Rattle.regalloc2_fastalloc_proofs.proofs.Changes.WalkChanges.{any_passed, free_begin, processes_branch_changes, begins_block_changes}
use Rattle.regalloc2_fastalloc_proofs.proofs.Operands.AllocsSoFar.{AreSoundOperands, good_grows, DefsAreWritten, UsesAreWritten}
use Rattle.regalloc2_fastalloc_proofs.proofs.Safety.InstKeepsSafe.{InstKept, allocs_inst_kept, allocs_inst_last_kept}
use Rattle.regalloc2_fastalloc_proofs.proofs.BlockEnd.NoMoveForOperand.{IsOutside}
use Rattle.regalloc2_fastalloc_proofs.proofs.BlockEnd.NoMoveInLastInst.{no_move_at_end}
use Rattle.regalloc2_fastalloc_proofs.proofs.Safety.InstsKeepSafe.{place_of, WritesByBranch, WritesFrom, more_written, WalkKept, AreLast, later_same}
use Rattle.regalloc2_fastalloc_proofs.proofs.Safety.InstsKeepSafe.{more_places, defs_written, uses_written}
use Rattle.regalloc2_fastalloc_proofs.proofs.Safety.BlockStartKeepsSafe.{reloads_at_begin_kept}
use Rattle.regalloc2_fastalloc_proofs.proofs.Safety.StoresKeepSafe.{IsAlike, more_safe, stores_branch_defs_kept}
use Rattle.regalloc2_fastalloc_proofs.proofs.Safety.BranchKeepsSafe.{processes_branch_kept}

-- where moves may be: before an instruction of a block, or after one that isn't its last
abbrev pub MayInBlocks : FunctionValue → ℕ → Type 0
MayInBlocks f q =
    (b i : ℕ) × (b < length f.blocks) × ((block_at f b).range.first ≤ i) × (i < (block_at f b).range.end)
    × ((q ≡ before i) ⊎ ((q ≡ after i) × (i + 1 < (block_at f b).range.end)))

-- where the blocks from one on begin
pub record StartsAt (f : FunctionValue) (b i : ℕ) : Type 0 where
  pub block : b < length f.blocks → i ≡ (block_at f b).range.first
  pub end : b ≡ length f.blocks → i ≡ length f.insts

-- the block after b begins where b ends, or b is the last and all instructions end there
pub start_next : (f : FunctionValue) → BlocksFollow f → (b : ℕ) → b < length f.blocks → StartsAt f (b + 1) (block_at f b).range.end
start_next f follow b lt = record {
  block = λ next. (let less : b + 1 - 1 ≡ b = omega arith in sym ((follow (b + 1) next).2 (omega arith) ∙ ap (λ n. (block_at f n).range.end) less));
  end = λ e. (follow b lt).3 e;
}

-- if all instructions of a block are left, nothing was allocated
pub block_start : (f : FunctionValue) (b : ℕ) (blank : List Place) (old : StateValue) (i : ℕ) (places : List Place) (t : StateValue) →
    AllocsBlockInsts f b blank old i places t → i ≡ (block_at f b).range.end → t ≡ old
block_start f b blank old i places t at_end e = refl
block_start f b blank old i places t (one_in n before_it p s u ge lt prev a) e = absurd (omega arith)

-- no instruction past a block's end is walked
walked_to : (f : FunctionValue) (b : ℕ) (blank : List Place) (old : StateValue) (i : ℕ) (places : List Place) (t : StateValue) →
    AllocsBlockInsts f b blank old i places t → i ≤ (block_at f b).range.end
walked_to f b blank old i places t at_end = omega arith
walked_to f b blank old i places t (one_in n before_it p s u ge lt prev a) = omega (arith, lt)

-- the places of later blocks stay
later_blocks_same : (f : FunctionValue) (b : ℕ) → (block_at f b).range.end ≤ length f.insts →
    (blank : List Place) (old : StateValue) (i : ℕ) (places : List Place) (t : StateValue) → AllocsBlockInsts f b blank old i places t
    → (j k : ℕ) → (block_at f b).range.end ≤ j → j < length f.insts → place_of f places j k ≡ place_of f blank j k
later_blocks_same f b within blank old i places t at_end j k le less = refl
later_blocks_same f b within blank old i places t (one_in n before_it p s u ge lt prev a) j k le less =
    later_same f n before_it places s a.middle (omega (arith, lt, within)) a.allocates j (omega (arith, lt, le)) less k
    ∙ later_blocks_same f b within blank old (n + 1) before_it s prev j k le less

-- The context of a function's walk: a machine, whose kinds of registers are disjoint; the known vregs, among them
-- parameters and the vregs that stores are for; the function, with sound operands; and the places at the walk's end.
-- Blocks follow one another, definitions that need a return have one, branches end their blocks, and lead to blocks of
-- the function.
pub record WalkRules : Type 1 where
  pub env : MachineValue
  pub apart : AreKindsApart env
  pub Known : VirtualRegister → Type 0
  pub f : FunctionValue
  pub sound_ops : (i : ℕ) → i < length f.insts → AreSoundOperands Known (inst_at f i).operands
  pub last : List Place
  pub follow : BlocksFollow f
  pub returns : (b i : ℕ) → b < length f.blocks → i + 1 ≡ (block_at f b).range.end → (k : ℕ) → k < length (inst_at f i).operands →
      is_def (op_at (inst_at f i).operands k).kind ≡ true → ends_block (inst_at f i) ≡ true
  pub branches : (b i : ℕ) → b < length f.blocks → (block_at f b).range.first ≤ i → i < (block_at f b).range.end → (inst_at f i).is_branch ≡ true →
      i + 1 ≡ (block_at f b).range.end
  pub params : (b k : ℕ) → b < length f.blocks → k < length (block_at f b).params → Known (slice_index_or (block_at f b).params k no_vreg)
  pub targets : (b k : ℕ) → b < length f.blocks → k < length (block_at f b).succs → target_at f b k < length f.blocks
  pub concerned : (b e k : ℕ) (v : VirtualRegister) → IsEdgeInto f b e k → IsConcerned f e k v → Known v
  pub alike : (b e k j : ℕ) (v : VirtualRegister) (slots : SpillSlotsValue) → IsEdgeInto f b e k → IsStoredFor f e k slots j v → IsAlike env f e j v

module _ (rules : WalkRules) where
  open rules use {env, apart, Known, f, sound_ops, last, follow, returns, branches, params, targets, concerned, alike}

  -- safe tables stay safe with the same slots and more
  kept_grows : (c d i : ℕ) (places : List Place) (t u : StateValue) → IsSafe env Known (WritesFrom f last d) (MayInBlocks f) u → SlotsStay t.slots u.slots →
      WalkKept env Known f (MayInBlocks f) last c i places t → WalkKept env Known f (MayInBlocks f) last d i places u
  kept_grows c d i places t u safe stay w = record {
    safe = safe;
    good = λ j k le less within. (let g = w.good j k le less within in
        record { good = good_grows env t.slots u.slots (op_at (inst_at f j).operands k) (place_of f places j k) stay g.good; shared = g.shared });
  }

  -- the arguments of a branch
  branch_kept : (c b i : ℕ) → b < length f.blocks → (block_at f b).range.first ≤ i → i < (block_at f b).range.end → (inst_at f i).is_branch ≡ true →
      (t u : InstRegs) (old new : StateValue) → ProcessesBranch f b i t u old new
      → IsSafe env Known (WritesFrom f last c) (MayInBlocks f) old → AreSafeRegs env t → StepKept env Known (WritesFrom f last c) (MayInBlocks f) u new
  branch_kept c b i lt ge less branch t u old new p h ht =
      let e : i + 1 ≡ (block_at f b).range.end = branches b i lt ge less branch in
      processes_branch_kept (rules_of env apart Known (WritesFrom f last c) (MayInBlocks f) (before i) (b, i, lt, ge, less, inl refl))
      (WritesByBranch f (before i))
      (λ v is n. inl (inr is)) f
      b i refl
      (λ k j edge within. (params (target_at f b k) j (targets b k lt edge) within, (b, i, k, j, lt, e, branch, refl, edge, within, refl))) t u old new p h ht

  -- an instruction, before a branch passes its arguments
  allocs_inst_in_block_kept : (c b i : ℕ) → b < length f.blocks → (blank before_it places : List Place) (old s new : StateValue) →
      (ge : (block_at f b).range.first ≤ i) (less : i < (block_at f b).range.end) → IsOutside old → AllocsBlockInsts f b blank old (i + 1) before_it s
      → (a : AllocsInstInBlock f b i before_it places s new) → AreLast f last i places → WalkKept env Known f (MayInBlocks f) last c (i + 1) before_it s
      → InstKept env Known (WritesFrom f last c) (MayInBlocks f) (inst_at f i).operands a.allocates.here a.allocates.allocates.ended a.middle
  allocs_inst_in_block_kept c b i lt blank before_it places old s new ge less bare prev a are_last w =
      let inst : InstValue = inst_at f i in
      let end = end_within f follow b lt in
      let within : i < length f.insts = omega (arith, less, end) in
      let x = a.allocates in
      let defs : DefsAreWritten (WritesFrom f last c) i inst.operands = defs_written env Known f sound_ops (MayInBlocks f) last c i within in
      let uses : UsesAreWritten (WritesFrom f last c) i inst.operands x.here = uses_written env Known f sound_ops (MayInBlocks f) last c i before_it places s
      a.middle within x are_last in
      elim (cases_eq (i + 1) (block_at f b).range.end) [
        | inl e ↦ (
            let start : s ≡ old = block_start f b blank old (i + 1) before_it s prev e in
            let no_edit = no_move_at_end Known i inst x.blank x.here s a.middle (sound_ops i within) (returns b i lt e) x.allocates (subst IsOutside (sym start) bare) in
            allocs_inst_last_kept apart inst (b, i, lt, ge, less, inl refl)
            (sound_ops i within) defs uses x.allocates no_edit w.safe)
        | inr d ↦ allocs_inst_kept apart inst (b, i, lt, ge, less, inl refl)
            (b, i, lt, ge, less, inr (refl, omega (arith, d, less))) (sound_ops i within) defs uses x.allocates w.safe
      ]

  -- the instructions of a block
  pub allocs_block_insts_kept : (b : ℕ) → b < length f.blocks → (blank : List Place) (old : StateValue) → IsOutside old →
      WalkKept env Known f (MayInBlocks f) last (b + 1) (block_at f b).range.end blank old
      → (i : ℕ) (places : List Place) (t : StateValue) → AllocsBlockInsts f b blank old i places t → AreLast f last i places →
      WalkKept env Known f (MayInBlocks f) last (b + 1) i places t
  allocs_block_insts_kept b lt blank old bare h i places t at_end are_last = h
  allocs_block_insts_kept b lt blank old bare h i places t (one_in n before_it p s u ge less prev a) are_last =
      let end = end_within f follow b lt in
      let within : n < length f.insts = omega (arith, less, end) in
      let w = allocs_block_insts_kept b lt blank old bare h (n + 1) before_it s prev (λ j k le small inside. are_last j k (omega arith) small inside
      ∙ later_same f n before_it places s a.middle within a.allocates j le small k) in
      let x = allocs_inst_in_block_kept (b + 1) b n lt blank before_it places old s t ge less bare prev a are_last w in
      let m : WalkKept env Known f (MayInBlocks f) last (b + 1) n places a.middle = record {
        safe = x.safe;
        good = more_places env Known f sound_ops (MayInBlocks f) last (b + 1) within a.allocates x w.good;
      } in
      elim (cases_Bool (inst_at f n).is_branch) [
        | inl branch ↦ (let k = branch_kept (b + 1) b n lt ge less branch a.allocates.allocates.ended a.inst_regs a.middle t (a.branch branch) x.safe
            x.inst_regs in
            kept_grows (b + 1) (b + 1) n places a.middle t k.safe
            (changes_stay (processes_branch_changes (λ p q. tt) (any_passed (λ x. Unit {0}) f b) (a.branch branch))) m)
        | inr none ↦ subst (WalkKept env Known f (MayInBlocks f) last (b + 1) n places) (sym (a.no_branch none)) m
      ]

  -- all blocks, if no vreg is in a register at the boundaries between them
  pub allocs_blocks_kept : (blank : List Place) (old : StateValue) → IsSafe env Known (WritesFrom f last (length f.blocks)) (MayInBlocks f) old →
      ((c : ℕ) (places : List Place) (t : StateValue) → AllocsBlocks f blank old c places t → IsOutside t)
      → (c : ℕ) (places : List Place) (t : StateValue) → AllocsBlocks f blank old c places t → (i : ℕ) → StartsAt f c i → AreLast f last i places →
      WalkKept env Known f (MayInBlocks f) last c i places t
  allocs_blocks_kept blank old h outside c places t all_left i starts are_last =
      record { safe = h; good = λ j k le less within. (let e = starts.end refl in absurd (omega (arith, e, le, less))) }
  allocs_blocks_kept blank old h outside c places t (one_block b before_it p s u w lt prev walks begins) i starts are_last =
      let B = block_at f b in
      let e : i ≡ B.range.first = starts.block lt in
      let some : B.range.first < B.range.end = (follow b lt).0 in
      let end : B.range.end ≤ length f.insts = end_within f follow b lt in
      let first : WalkKept env Known f (MayInBlocks f) last (b + 1) B.range.end before_it s = allocs_blocks_kept blank old h outside (b + 1) before_it s prev
      B.range.end (start_next f follow b lt)
      (λ j k le less within. are_last j k (omega (arith, e, some, le)) less within
      ∙ later_blocks_same f b end before_it s B.range.first places u walks j k le less) in
      let second : WalkKept env Known f (MayInBlocks f) last (b + 1) B.range.first places u = allocs_block_insts_kept b lt before_it s
      (outside (b + 1) before_it s prev)
      first B.range.first places u walks (λ j k le less within. are_last j k (omega (arith, e, le)) less within) in
      let can : MayInBlocks f (before B.range.first) = (b, B.range.first, lt, omega arith, some, inl refl) in
      let k = reloads_at_begin_kept (rules_of env apart Known (WritesFrom f last (b + 1)) (MayInBlocks f) (before B.range.first) can)
      B.params (λ j within. params b j lt within) u begins.middle begins.reloads second.safe in
      let wider : IsSafe env Known (WritesFrom f last b) (MayInBlocks f) begins.middle =
      more_safe env Known (WritesFrom f last (b + 1)) (WritesFrom f last b) (MayInBlocks f) begins.middle (more_written f last (b + 1) b (omega arith))
      k.safe in
      let stored = stores_branch_defs_kept env Known (WritesFrom f last b) (MayInBlocks f) f b can (λ d g v edge is. concerned b d g v edge is)
      (λ d g j v slots edge is. alike b d g j v slots edge is)
      (λ d g v n edge is. inr (b, omega arith, lt, refl, (d, g, edge, is))) begins.middle t begins.stores wider in
      subst (λ n. WalkKept env Known f (MayInBlocks f) last b n places t) (sym e) (kept_grows (b + 1) b B.range.first places u t stored
      (changes_stay (begins_block_changes (free_begin f b) begins)) second)

  -- the state is safe at each instruction of a block, with the blocks after it walked
  pub within_kept : (blank : List Place) (old : StateValue) → IsSafe env Known (WritesFrom f last (length f.blocks)) (MayInBlocks f) old →
      ((c : ℕ) (places : List Place) (t : StateValue) → AllocsBlocks f blank old c places t → IsOutside t)
      → (b : ℕ) → b < length f.blocks → (p : List Place) (s : StateValue) → AllocsBlocks f blank old (b + 1) p s → (i : ℕ) (q : List Place) (u : StateValue) →
      AllocsBlockInsts f b p s i q u → AreLast f last i q → WalkKept env Known f (MayInBlocks f) last (b + 1) i q u
  within_kept blank old h outside b lt p s prev i q u walk are_last =
      let end : (block_at f b).range.end ≤ length f.insts = end_within f follow b lt in
      let up_to : i ≤ (block_at f b).range.end = walked_to f b p s i q u walk in
      allocs_block_insts_kept b lt p s (outside (b + 1) p s prev) (allocs_blocks_kept blank old h outside (b + 1) p s prev (block_at f b).range.end
      (start_next f follow b lt)
      (λ j k le less inside. are_last j k (omega (arith, le, up_to)) less inside ∙ later_blocks_same f b end p s i q u walk j k le less)) i q u walk are_last
