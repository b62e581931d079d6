-- The whole walk keeps slots disjoint and moves within a class.
-- The fold in `Changes` doesn't apply: what holds depends on how far the walk is.
use Rattle.std.proofs.Common.{ℕ, ◌≡◌, ◌+◌, ◌<◌, ◌≤◌, ◌∙◌, List, [], true, Bool, length, slice_index_or, refl, sym, ap, inl, inr, subst, arith}
use Rattle.std.proofs.lemmas.Bool.{cases_Bool}
use Rattle.regalloc2_names.specs.declared.RegClass.{RegClass}
use Rattle.regalloc2_names.specs.Register.{VirtualRegister, no_vreg}
use Rattle.regalloc2_names.specs.Place.{Place, NoPlace, before}
use Rattle.regalloc2_function.specs.FunctionValue.{FunctionValue, IsLimited, block_at, inst_at}
use Rattle.regalloc2_function.specs.Machine.{MachineValue}
use Rattle.regalloc2_function.proofs.Following.{end_within}
use Rattle.regalloc2_semantics.specs.Runs.{arguments_at}
use Rattle.regalloc2_function.specs.WellFormed.{IsWellFormed, BlocksFollow}
use Rattle.regalloc2_semantics.specs.Sound.{HasEdge, target_at}
use Rattle.regalloc2_analysis.specs.BranchDefs.BranchDefs.{IsEdgeInto}
use Rattle.regalloc2_carry.proofs.SingleDef.{Made, one_made}
use Rattle.regalloc2_fastalloc_state.specs.StateParts.{SpillSlotsValue, IsSlotOrNone, no_allocs, no_slots, slot_name, units_of}
use Rattle.regalloc2_fastalloc_state.specs.Validate.NoLimits.{AreTaken}
use Rattle.regalloc2_fastalloc_proofs.specs.InstSteps.{StateValue}
use Rattle.regalloc2_fastalloc_proofs.specs.Safety.{HasMachine}
use Rattle.regalloc2_fastalloc_proofs.specs.StoreSteps.{IsConcerned, IsStoredFor}
use Rattle.regalloc2_fastalloc_proofs.specs.BlockSteps.{AllocsInstInBlock, AllocsBlockInsts, at_end, one_in, AllocsBlocks, all_left, one_block}
use Rattle.regalloc2_fastalloc_proofs.proofs.Safety.InitialState.{begun_empty}
use Rattle.regalloc2_fastalloc_proofs.proofs.Operands.AllocsSoFar.{AreSoundOperands}
use Rattle.regalloc2_fastalloc_proofs.proofs.Safety.WellFormedKeepsSafe.{sound_ops_at}
use Rattle.regalloc2_fastalloc_proofs.proofs.Slots.NewSlotsApart.{none_laid}
use Rattle.regalloc2_fastalloc_proofs.proofs.Slots.StepsKeepSlotsApart.{IsOwnPlace, IsClassed}
use Rattle.regalloc2_fastalloc_proofs.proofs.Slots.InstKeepsSlotsApart.{allocs_inst_classed}
use Rattle.regalloc2_fastalloc_proofs.proofs.Safety.StoredDefs.{IsStoredOfClass, concerned_made, argument_has_class_of_param, stored_of_class}
use Rattle.regalloc2_fastalloc_proofs.proofs.Slots.StoresKeepSlotsApart.{stores_branch_defs_classed}
use Rattle.regalloc2_fastalloc_proofs.proofs.Slots.BranchKeepsSlotsApart.{AreKnownOfOneClass, met_more, processes_branch_classed, reloads_at_begin_classed}
use Rattle.regalloc2_fastalloc_proofs.proofs.Safety.BlocksKeepSafe.{StartsAt, start_next}
use Rattle.regalloc2_fastalloc_proofs.proofs.Slots.OutputOwnsSlots.{KeepsOfClass}
use Rattle.regalloc2_carry.proofs.Plain.{always, no_some}

-- the branches from an instruction on
abbrev pub BranchesFrom : FunctionValue → ℕ → ℕ → RegClass → Type 0
BranchesFrom f i j class = (i ≤ j) × (j < length f.insts) × ((inst_at f j).is_branch ≡ true)

module _ (f : FunctionValue) (Known : VirtualRegister → Type 0) (same : (v w : VirtualRegister) → Known v → Known w → v.number ≡ w.number → v ≡ w)
    (named : Bool)
    (sound_ops : (i : ℕ) → i < length f.insts → AreSoundOperands Known (inst_at f i).operands) (follow : BlocksFollow f)
    (params : (b k : ℕ) → b < length f.blocks → k < length (block_at f b).params → Known (slice_index_or (block_at f b).params k no_vreg))
    (alike : (b k j : ℕ) → b < length f.blocks → HasEdge f b k → j < length (block_at f (target_at f b k)).params →
    AreKnownOfOneClass Known (slice_index_or (block_at f (target_at f b k)).params j no_vreg) (slice_index_or (arguments_at f b k) j no_vreg))
    (concerned : (b e k : ℕ) (v : VirtualRegister) → IsEdgeInto f b e k → IsConcerned f e k v → Known v)
    (of_class : (b e k j : ℕ) (v : VirtualRegister) (slots : SpillSlotsValue) → IsEdgeInto f b e k → IsStoredFor f e k slots j v → IsStoredOfClass f e j v) where
  -- the tables before an instruction is walked
  abbrev ClassedAt : ℕ → StateValue → Type 0
  ClassedAt i t = IsClassed Known named (BranchesFrom f i) t

  allocs_inst_in_block_classed : (b i : ℕ) → b < length f.blocks → (before_it places : List Place) (old new : StateValue) → i < length f.insts →
      AllocsInstInBlock f b i before_it places old new → ClassedAt (i + 1) old → ClassedAt i new
  allocs_inst_in_block_classed b i lt before_it places old new within a h =
      let x = a.allocates.allocates in
      let k = allocs_inst_classed Known named (BranchesFrom f (i + 1)) i (inst_at f i) a.allocates.blank a.allocates.here old a.middle (sound_ops i within) x h in
      let more : (j : ℕ) (c : RegClass) → BranchesFrom f (i + 1) j c → BranchesFrom f i j c = λ j c m. (let from = m.0 in (omega (arith, from), m.1, m.2)) in
      elim (cases_Bool (inst_at f i).is_branch) [
        | inl branch ↦ processes_branch_classed Known same named (λ c m. (let from = m.0 in omega (arith, from))) more
            (λ c. (omega arith, within, branch))
            (λ e j edge less. alike b e j lt edge less) (a.branch branch) k.classed k.inst_regs
        | inr none ↦ subst (ClassedAt i) (sym (a.no_branch none)) (met_more Known named (BranchesFrom f (i + 1)) (BranchesFrom f i) a.middle more k.classed)
      ]

  -- the instructions of a block
  allocs_block_insts_classed : (b : ℕ) → b < length f.blocks → (blank : List Place) (old : StateValue) → ClassedAt (block_at f b).range.end old →
      (i : ℕ) (places : List Place) (t : StateValue) → AllocsBlockInsts f b blank old i places t → ClassedAt i t
  allocs_block_insts_classed b lt blank old h i places t at_end = h
  allocs_block_insts_classed b lt blank old h i places t (one_in n before_it p s u ge less prev a) =
      allocs_inst_in_block_classed b n lt before_it places s t (let end = end_within f follow b lt in omega (arith, less, end)) a
      (allocs_block_insts_classed b lt blank old h (n + 1) before_it s prev)

  -- all blocks
  pub allocs_blocks_classed : {blank : List Place} {old : StateValue} → ClassedAt (length f.insts) old → {c : ℕ} {places : List Place} {t : StateValue} →
      AllocsBlocks f blank old c places t → {i : ℕ} → StartsAt f c i → ClassedAt i t
  allocs_blocks_classed {old} h all_left starts = subst (λ (n : ℕ). ClassedAt n old) (sym (starts.end refl)) h
  allocs_blocks_classed {blank} {old} h {places} {t} (one_block b before_it p s u w lt prev walks begins) starts =
      let first : ℕ = (block_at f b).range.first in
      let later = allocs_blocks_classed h prev (start_next f follow b lt) in
      let here : ClassedAt first u = allocs_block_insts_classed b lt before_it s later first places u walks in
      subst (λ (n : ℕ). ClassedAt n t) (sym (starts.block lt)) (stores_branch_defs_classed Known same named (BranchesFrom f first) f b (concerned b)
      (of_class b)
      begins.middle t begins.stores (reloads_at_begin_classed Known same named (BranchesFrom f first) (before first)
      (block_at f b).params (λ k less. params b k lt less) u begins.middle begins.reloads here))

-- the initial tables
begun_classed : (f : FunctionValue) (env : MachineValue) (Known : VirtualRegister → Type 0) (named : Bool) → KeepsOfClass env →
    (t : StateValue) (n m : ℕ) (sizes : List ℕ) {watched : List Bool} → t.places ≡ no_allocs n watched → t.slots ≡ no_slots m sizes named → t.edits ≡ []
    → ((c : RegClass) → 0 < units_of (no_slots m sizes named) c) → HasMachine env t → (Met : ℕ → RegClass → Type 0) → IsClassed Known named Met t
begun_classed f env Known named kept t n m sizes places slots edits units machine Met =
    let e = begun_empty t n places in
    let none : (k : ℕ) → slot_name t.slots k ≡ NoPlace = λ k. ap (λ (s : SpillSlotsValue). slot_name s k) slots ∙ always m k NoPlace in
    record {
      holders = λ r v small held. absurd (no_some v (sym (e.none_held r small) ∙ held));
      places = λ v known. subst (IsOwnPlace t.slots v) (sym (e.nowhere v.number)) tt;
      slots = λ k. subst (IsSlotOrNone t.slots.count) (sym (none k)) tt;
      units = λ c. subst (λ (s : SpillSlotsValue). 0 < units_of s c) (sym slots) (units c);
      dedicated_scratch = λ c r has. kept c r (machine.dedicated_scratch c r has);
      by_last = ap (λ (s : SpillSlotsValue). s.by_last) slots;
      made = [];
      laid = none_laid Known t.slots none;
      met = λ k d lt. absurd (omega (arith, lt));
      edits = rw edits (λ k d lt. absurd (omega (arith, lt)));
    }

-- the final state of the walk over a well-formed function
pub walk_classed : {env : MachineValue} {f : FunctionValue} → KeepsOfClass env → IsLimited f → IsWellFormed env f → AreTaken f →
    {blank places : List Place} {begin last : StateValue} (n m : ℕ) (sizes : List ℕ) {named : Bool}
    → {watched : List Bool} → begin.places ≡ no_allocs n watched → begin.slots ≡ no_slots m sizes named → begin.edits ≡ [] → ((c : RegClass) → 0 < units_of (no_slots m sizes named) c) →
    HasMachine env begin → AllocsBlocks f blank begin 0 places last
    → IsClassed (Made f) named (BranchesFrom f 0) last
walk_classed {env} {f} kept limited ok taken {blank} {places} {begin} {last} n m sizes {named} none_held slots none units machine walks =
    let some : 0 < length f.blocks = (let entry = ok.successors.0 in omega (arith, entry)) in
    allocs_blocks_classed f (Made f) (one_made f ok.defined_once) named (sound_ops_at env f limited ok taken) ok.follow
    (λ b k lt less. Made.by_param b k (record { block = lt; param = less; number = refl }) refl) (argument_has_class_of_param env f ok)
    (concerned_made f ok.successors ok.follow) (stored_of_class env f limited ok taken) (begun_classed f env (Made f) named kept begin n m sizes none_held slots
    none units machine (BranchesFrom f (length f.insts))) walks
    (record { block = λ lt. sym ((ok.follow 0 some).1 refl); end = λ e. absurd (omega (arith, e, some)) })
