-- The whole walk over a well-formed function with any number of blocks keeps the tables safe, and what holds at its
-- end.
use Rattle.std.proofs.Common.{ℕ, ◌≡◌, ◌≢◌, ◌+◌, ◌<◌, ◌≤◌, ◌⊎◌, ◌||◌, ◌&&◌, Bool, true, false, List, [], length, nat_eq, nat_lt, eq-eqb, refl, sym, ap, inl}
use Rattle.std.proofs.Common.{inr, subst, arith}
use Rattle.std.specs.Prelude.{All, slice_index_or}
use Rattle.std.proofs.lemmas.Bool.{lt-ltb, cases_eq, or_right, and_from, cases_lt}
use Rattle.std.proofs.lemmas.List.Elements.{All-get_or}
use Rattle.regalloc2_names.specs.declared.RegClass.{RegClass}
use Rattle.regalloc2_names.specs.Register.{VirtualRegister, no_vreg}
use Rattle.regalloc2_names.specs.Place.{Place, before, after}
use Rattle.regalloc2_function.specs.FunctionValue.{FunctionValue, IsLimited, block_at, inst_at, last_of}
use Rattle.regalloc2_function.specs.Machine.{MachineValue}
use Rattle.regalloc2_function.specs.OutputValue.{OutputValue, is_listed_at}
use Rattle.regalloc2_semantics.specs.Laws.{EditsAreListed}
use Rattle.regalloc2_function.specs.Fitting.{MachineFits}
use Rattle.regalloc2_function.specs.WellFormed.{IsWellFormed, BlocksFollow}
use Rattle.regalloc2_semantics.specs.Sound.{target_at}
use Rattle.regalloc2_carry.proofs.SingleDef.{Made}
use Rattle.regalloc2_carry.proofs.Order.{ends_before}
use Rattle.regalloc2_fastalloc_state.specs.Validate.NoLimits.{AreTaken}
use Rattle.regalloc2_fastalloc_state.specs.StateParts.{no_allocs, no_slots, units_of}
use Rattle.regalloc2_fastalloc_proofs.specs.InstSteps.{StateValue, ends_block}
use Rattle.regalloc2_fastalloc_proofs.specs.Safety.{HasMachine, IsSafe}
use Rattle.regalloc2_fastalloc_proofs.specs.BlockSteps.{AllocsBlockInsts, AllocsBlocks}
use Rattle.regalloc2_fastalloc_proofs.proofs.Safety.InitialState.{begun_safe}
use Rattle.regalloc2_fastalloc_proofs.proofs.BlockEnd.NoMoveForOperand.{IsOutside}
use Rattle.regalloc2_fastalloc_proofs.proofs.Safety.OutputOfWalk.{IsOutputOfWalk, each_edit, machine_apart}
use Rattle.regalloc2_fastalloc_proofs.proofs.Safety.WellFormedKeepsSafe.{sound_ops_at}
use Rattle.regalloc2_fastalloc_proofs.proofs.Safety.InstsKeepSafe.{AreLast, WalkKept, WritesByBranch, WritesFrom}
use Rattle.regalloc2_fastalloc_proofs.proofs.Safety.BlocksKeepSafe.{MayInBlocks, WalkRules, allocs_blocks_kept, within_kept}
use Rattle.regalloc2_fastalloc_proofs.proofs.Safety.StoredDefs.{concerned_made, stored_has_class_of_vreg}

-- a block's last instruction
is_last : (f : FunctionValue) (b i : ℕ) → i + 1 ≡ (block_at f b).range.end → i ≡ last_of (block_at f b)
is_last f b i e = omega (arith, e)

-- the last instruction ends its block
last_ends : (env : MachineValue) (f : FunctionValue) → IsWellFormed env f → (b i : ℕ) → b < length f.blocks → i + 1 ≡ (block_at f b).range.end →
    ends_block (inst_at f i) ≡ true
last_ends env f ok b i lt e =
    subst (λ n. ends_block (inst_at f n) ≡ true) (sym (is_last f b i e)) (elim (ok.end b lt).0 [
      | inl branch ↦ rw branch.0 refl
      | inr ret ↦ rw (ret.0, ret.1) refl
    ])

-- a branch is at a block's end
branch_last : (env : MachineValue) (f : FunctionValue) → IsWellFormed env f → (b i : ℕ) → b < length f.blocks → (block_at f b).range.first ≤ i →
    i < (block_at f b).range.end → (inst_at f i).is_branch ≡ true → i + 1 ≡ (block_at f b).range.end
branch_last env f ok b i lt ge less branch = elim (cases_eq (i + 1) (block_at f b).range.end) [
  | inl e ↦ e
  | inr d ↦ absurd (let none : (inst_at f i).is_branch ≡ false = ((ok.end b lt).1 i ge less (omega (arith, d, less))).0 in cc)
]

-- The tables are safe at each instruction of the walk, with stores written at the starts of later blocks.
abbrev pub SafeWithin : MachineValue → FunctionValue → List Place → StateValue → List Place → Type 0
SafeWithin env f blank old places = (b : ℕ) → b < length f.blocks → (p : List Place) (s : StateValue) → AllocsBlocks f blank old (b + 1) p s → (i : ℕ)
    (q : List Place) (u : StateValue) → AllocsBlockInsts f b p s i q u → AreLast f places i q →
    IsSafe env (Made f) (WritesFrom f places (b + 1)) (MayInBlocks f) u

-- A walk over all blocks of a well-formed function whose machine fits, from the tables at the start: no vreg has a
-- place or a slot and no move is listed, slots have at least one unit, and registers are the machine's.
pub record FreshWalk : Type 0 where
  pub env : MachineValue
  pub f : FunctionValue
  pub fits : MachineFits f env
  pub limited : IsLimited f
  pub ok : IsWellFormed env f
  pub taken : AreTaken f
  pub blank : List Place
  pub places : List Place
  pub begin : StateValue
  pub last : StateValue
  pub n : ℕ
  pub m : ℕ
  pub sizes : List ℕ
  pub by_last : Bool
  pub watched : List Bool
  pub none_held : begin.places ≡ no_allocs n watched
  pub slots : begin.slots ≡ no_slots m sizes by_last
  pub none : begin.edits ≡ []
  pub units : (c : RegClass) → 0 < units_of (no_slots m sizes by_last) c
  pub machine : HasMachine env begin
  pub walks : AllocsBlocks f blank begin 0 places last

-- All blocks of a well-formed function are allocated from a fresh state.
module _ (fresh : FreshWalk) (outside : (c : ℕ) (ps : List Place) (u : StateValue) → AllocsBlocks fresh.f fresh.blank fresh.begin c ps u → IsOutside u) where
  open fresh use {env, f, fits, limited, ok, taken, blank, places, begin, last, n, m, sizes, by_last, none_held, slots, none, units, machine, walks}

  begun : IsSafe env (Made f) (WritesFrom f places (length f.blocks)) (MayInBlocks f) begin
  begun = begun_safe env (Made f) (WritesFrom f places (length f.blocks)) (MayInBlocks f) begin n m sizes by_last none_held slots none units machine

  params_made : (b k : ℕ) → b < length f.blocks → k < length (block_at f b).params → Made f (slice_index_or (block_at f b).params k no_vreg)
  params_made b k lt less = Made.by_param b k (record { block = lt; param = less; number = refl }) refl

  targets : (b k : ℕ) → b < length f.blocks → k < length (block_at f b).succs → target_at f b k < length f.blocks
  targets b k lt less = All-get_or (λ s. s < length f.blocks) (block_at f b).succs k 0 less (ok.successors.1 b lt)

  -- the context of the walk
  abbrev walk_rules : WalkRules
  walk_rules = record {
    env = env;
    apart = machine_apart f env fits;
    Known = Made f;
    f = f;
    sound_ops = sound_ops_at env f limited ok taken;
    last = places;
    follow = ok.follow;
    returns = λ b i lt e k less def. last_ends env f ok b i lt e;
    branches = branch_last env f ok;
    params = params_made;
    targets = targets;
    concerned = concerned_made f ok.successors ok.follow;
    alike = stored_has_class_of_vreg limited ok taken machine walks;
  }

  -- the walk ends in a safe state, with a good place for each operand
  pub walk_blocks_good : WalkKept env (Made f) f (MayInBlocks f) places 0 0 places last
  walk_blocks_good =
      let some : 0 < length f.blocks = (let entry = ok.successors.0 in omega (arith, entry)) in
      allocs_blocks_kept walk_rules blank begin begun outside 0 places last
      walks 0
      (record { block = λ lt. sym ((ok.follow 0 some).1 refl); end = λ e. absurd (omega (arith, e, some)) })
      (λ j k le less within. refl)

  -- all states of the walk are safe
  pub walk_safe : SafeWithin env f blank begin places
  walk_safe b lt p s prev i q u walk are_last = (within_kept walk_rules blank begin begun outside b lt p s prev i q u walk are_last).safe

-- two numbers are equal, or one is less than the other
pub cases_order : (b c : ℕ) → (b < c) ⊎ (b ≡ c) ⊎ (c < b)
cases_order b c = elim (cases_lt b c) [
  | inl less ↦ inl less
  | inr le ↦ elim (cases_eq b c) [ inl e ↦ inr (inl e) | inr d ↦ inr (inr (omega (arith, le, d))) ]
]

-- a move at a point of a block's instructions is in the block's listing
listed_in_blocks : (f : FunctionValue) (p : ℕ) → MayInBlocks f p → (b i : ℕ) × (b < length f.blocks) × ((block_at f b).range.first ≤ i)
    × (i < (block_at f b).range.end) × (is_listed_at (block_at f b).range.first i p ≡ true)
listed_in_blocks f p (b, i, lt, ge, less, inl e) = (
  b,
  i,
  lt,
  ge,
  less,
  ap (λ x. x || (nat_lt (block_at f b).range.first i && nat_eq (p + 1) (before i))) (eq-eqb p (before i) e),
)
listed_in_blocks f p (b, i, lt, ge, less, inr (e, next)) = (
  b,
  i + 1,
  lt,
  omega (arith, ge),
  next,
  or_right (nat_eq p (before (i + 1))) (nat_lt (block_at f b).range.first (i + 1) && nat_eq (p + 1) (before (i + 1)))
      (and_from (nat_lt (block_at f b).range.first (i + 1)) (nat_eq (p + 1) (before (i + 1)))
      (lt-ltb (block_at f b).range.first (i + 1) (omega (arith, ge))) (eq-eqb (p + 1) (before (i + 1)) (omega (arith, e)))),
)

-- a point at which moves may be pushed isn't after a block's last instruction
not_behind : (f : FunctionValue) → BlocksFollow f → (p : ℕ) → MayInBlocks f p → (b : ℕ) → b < length f.blocks → p + 1 ≢ before (block_at f b).range.end
not_behind f follow p (c, i, lt, ge, less, inl e) b small at = omega (arith, e, at)
not_behind f follow p (c, i, lt, ge, less, inr (e, next)) b small at =
    let end : i + 1 ≡ (block_at f b).range.end = omega (arith, e, at) in
    let some : (block_at f b).range.first < (block_at f b).range.end = (follow b small).0 in
    elim (cases_order b c) [
      | inl before_it ↦ (let h = ends_before f follow b c before_it lt in omega (arith, h, end, ge))
      | inr (inl same) ↦ (let h : (block_at f b).range.end ≡ (block_at f c).range.end = ap (λ n. (block_at f n).range.end) same in omega (arith, h, end, next))
      | inr (inr behind) ↦ (let h = ends_before f follow c b behind small in omega (arith, h, some, end, next))
    ]

-- each edit of an output made of the final state is in a block's listing
pub made_listed_blocks : (f : FunctionValue) (env : MachineValue) (Known : VirtualRegister → Type 0) (t : StateValue) (o : OutputValue) →
    IsOutputOfWalk f env Known (MayInBlocks f) t o → EditsAreListed f o
made_listed_blocks f env Known t o m =
    each_edit f env Known (MayInBlocks f) t o (λ e. (b i : ℕ) × (b < length f.blocks) × ((block_at f b).range.first ≤ i) × (i < (block_at f b).range.end)
    × (is_listed_at (block_at f b).range.first i e.0 ≡ true)) m
    (λ e sound. listed_in_blocks f e.0 sound.point)

-- no edit is after a block's last instruction
pub made_none_at_end : (f : FunctionValue) (env : MachineValue) (Known : VirtualRegister → Type 0) (t : StateValue) (o : OutputValue) → BlocksFollow f →
    IsOutputOfWalk f env Known (MayInBlocks f) t o → (b : ℕ) → b < length f.blocks → All (λ e. e.0 + 1 ≢ before (block_at f b).range.end) o.edits
made_none_at_end f env Known t o follow m b less =
    each_edit f env Known (MayInBlocks f) t o (λ e. e.0 + 1 ≢ before (block_at f b).range.end) m
    (λ e sound. not_behind f follow e.0 sound.point b less)

-- an instruction that is no branch writes no parameters
pub no_branch_writes : (f : FunctionValue) (i : ℕ) (v : VirtualRegister) → (inst_at f i).is_branch ≡ false → WritesByBranch f (before i) v → ⊥
no_branch_writes f i v none (b, j, k, l, lt, end, branch, at, edge, within, is) =
    let same : j ≡ i = omega (arith, at) in
    let yes_branch : (inst_at f i).is_branch ≡ true = subst (λ n. (inst_at f n).is_branch ≡ true) same branch in cc

-- no parameter is written at the point after an instruction
pub none_written_behind : (f : FunctionValue) (i : ℕ) (v : VirtualRegister) → WritesByBranch f (after i) v → ⊥
none_written_behind f i v (b, j, k, l, lt, end, branch, at, edge, within, is) = omega (arith, at)
