-- The function that a builder makes of its blocks.
use Rattle.std.specs.Prelude.{ℕ, ◌≡◌, ◌+◌, ◌-◌, ◌<◌, ◌≤◌, ◌^◌, if◌then◌else◌, nat_eq, false, List, [], ◌∷◌, ◌++◌, length, map, All, Contains, slice_index_or}
use Rattle.std.specs.List.{flat_map}
use Rattle.regalloc2_function.specs.FunctionValue.{FunctionValue, BlockValue, InstValue, block_at}
use Rattle.regalloc2_serialize.specs.TableFunction.Draft.{DraftValue, draft_at}
use Rattle.regalloc2_serialize.specs.declared.table_function.builder.BuildError.{BuildError}
use Rattle.regalloc2_serialize.specs.declared.table_function.builder.BuildError.TheVariants.{Memory, NoBlock, TooManyBlocks, TooManyInsts, TooManyVRegs}

-- a block whose predecessors aren't known yet, of the instructions from `first` on
abbrev pub placed_block : ℕ → DraftValue → BlockValue
placed_block first d = record {
  range = record { first = first; end = first + length d.insts };
  succs = d.succs;
  preds = [];
  params = d.params;
  arguments = d.arguments;
}

-- blocks that follow one another from an instruction on
abbrev pub blocks_from : ℕ → List DraftValue → List BlockValue
blocks_from first [] = []
blocks_from first (d ∷ ds) = placed_block first d ∷ blocks_from (first + length d.insts) ds

-- all instructions, block by block
abbrev pub insts_of : List DraftValue → List InstValue
insts_of drafts = flat_map (λ d. d.insts) drafts

-- `pred`, once for each of the successors that is `b`
abbrev pub edges_to : ℕ → ℕ → List ℕ → List ℕ
edges_to b pred succs = flat_map (λ s. if nat_eq s b then pred ∷ [] else []) succs

-- the predecessors of `b`, by the successors of each block from number `first` on
abbrev pub preds_from : ℕ → ℕ → List (List ℕ) → List ℕ
preds_from b first [] = []
preds_from b first (succs ∷ rest) = edges_to b first succs ++ preds_from b (first + 1) rest

abbrev pub without_preds : BlockValue → BlockValue
without_preds b = record b { preds = [] }

-- the function has the blocks `drafts` and nothing else, and slots of one unit
pub record IsBuilt (drafts : List DraftValue) (count : ℕ) (f : FunctionValue) : Type 0 where
  pub blocks : map without_preds f.blocks ≡ blocks_from 0 drafts
  pub preds : (b : ℕ) → b < length drafts → (block_at f b).preds ≡ preds_from b 0 (map (λ d. d.succs) drafts)
  pub succs : (b : ℕ) → b < length drafts → All (λ s. s < length drafts) (draft_at drafts b).succs
  pub insts : f.insts ≡ insts_of drafts
  pub entry : f.entry ≡ 0
  pub num_vregs : f.num_vregs ≡ count
  pub slot_sizes : f.slot_sizes ≡ record { int = 1; float = 1; vector = 1 }
  pub named_by_last_slot : f.named_by_last_slot ≡ false
  pub labels : f.labels ≡ []
  pub allows_multiple_defs : f.allows_multiple_defs ≡ false

-- a block goes on to `s`, which wasn't declared
pub record IsAstray (succs : List (List ℕ)) (s : ℕ) : Type 0 where
  pub absent : length succs ≤ s
  pub from : ℕ
  pub listed : Contains (slice_index_or succs from []) s

-- why the blocks `drafts` make no function
abbrev pub IsUnbuilt : List DraftValue → ℕ → BuildError → Type 0
IsUnbuilt drafts num_vregs Memory = Unit {0}
IsUnbuilt drafts num_vregs (NoBlock s) = IsAstray (map (λ d. d.succs) drafts) s
IsUnbuilt drafts num_vregs TooManyBlocks = 2 ^ 32 - 1 ≤ length drafts
IsUnbuilt drafts num_vregs TooManyInsts = 2 ^ 30 ≤ length (insts_of drafts)
IsUnbuilt drafts num_vregs TooManyVRegs = 2 ^ 30 ≤ num_vregs
