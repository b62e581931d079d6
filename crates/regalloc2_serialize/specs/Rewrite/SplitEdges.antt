-- A function whose critical edges are split.
-- An edge is critical if its block has several successors and its end is entered in several ways, as for upstream;
-- paths are this project's.
use Rattle.std.specs.Prelude.{ℕ, zero, suc, ◌≡◌, ◌+◌, ◌-◌, ◌<◌, ◌≤◌, ◌^◌, Bool, true, false, ◌&&◌, if◌then◌else◌, nat_eq, nat_lt, List, [], ◌∷◌, ◌++◌, length}
use Rattle.std.specs.Prelude.{map, count_by, slice_index, sum_by}
use Rattle.std.specs.List.{range_with_len}
use Rattle.std.specs.Option.{option_map}
use Rattle.regalloc2_names.specs.Register.{Register, VirtualRegister, empty_set, has_register}
use Rattle.regalloc2_function.specs.FunctionValue.{FunctionValue, InstValue, block_at, inst_at, EachBlock}
use Rattle.regalloc2_semantics.specs.Runs.{Way, Onward, ToSuccessor, IsPath, end_of, Stamp, arguments_at, source_before}
use Rattle.regalloc2_function.specs.WellFormed.{IsFramed, times_in, NotCriticalAt, PredecessorsAt}
use Rattle.regalloc2_serialize.specs.TableFunction.Draft.{DraftValue}
use Rattle.regalloc2_serialize.specs.declared.rewrite.error.RewriteError.{RewriteError}
use Rattle.regalloc2_serialize.specs.declared.rewrite.error.RewriteError.TheVariants.{Memory, Unframed, NoOrder, Labels, TooManyBlocks, TooManyInsts}

-- how many edges enter block `t`, by the successors of all blocks; the function's start is an edge into the entry
abbrev pub entries_into : FunctionValue → ℕ → ℕ
entries_into f t = sum_by (λ b. times_in t b.succs) f.blocks + (if nat_eq t f.entry then 1 else 0)

-- `m` and `n` are equal, or each is at least two
abbrev pub AgreeUpToTwo : ℕ → ℕ → Type 0
AgreeUpToTwo m n = (m < 2 → m ≡ n) × (n < 2 → m ≡ n)

-- how many edges enter each block, counted up to two
pub record AreEntryCounts (f : FunctionValue) (counts : List ℕ) : Type 0 where
  pub long : length counts ≡ length f.blocks
  pub counted : (t : ℕ) → t < length f.blocks → AgreeUpToTwo (slice_index counts t) (entries_into f t)

-- a block of a valid function, with the counts of edges into all blocks
pub record IsCountedBlock (f : FunctionValue) (b : ℕ) (counts : List ℕ) : Type 0 where
  pub framed : IsFramed f
  pub block : b < length f.blocks
  pub entries : AreEntryCounts f counts

-- whether the edge from a block to its successor at a position is critical
abbrev pub is_critical : FunctionValue → ℕ → ℕ → Bool
is_critical f b k = nat_lt 1 (length (block_at f b).succs) && nat_lt 1 (entries_into f (slice_index (block_at f b).succs k))

-- an instruction that only goes on to a successor
pub record IsJump (i : InstValue) : Type 0 where
  pub operands : i.operands ≡ []
  pub clobbers : (r : Register) → has_register i.clobbers r ≡ false
  pub is_branch : i.is_branch ≡ true
  pub is_ret : i.is_ret ≡ false

-- block `n` of `g` stands on the edge from block `b` of `f` at position `k`: it is a jump, takes no arguments, and
-- passes the edge's
pub record IsBetween (f : FunctionValue) (b k : ℕ) (g : FunctionValue) (n : ℕ) : Type 0 where
  pub new : length f.blocks ≤ n
  pub block : n < length g.blocks
  pub long : (block_at g n).range.first + 1 ≡ (block_at g n).range.end
  pub jump : IsJump (inst_at g (block_at g n).range.first)
  pub params : (block_at g n).params ≡ []
  pub preds : (block_at g n).preds ≡ b ∷ []
  pub succs : (block_at g n).succs ≡ slice_index (block_at f b).succs k ∷ []
  pub arguments : arguments_at g n 0 ≡ arguments_at f b k

-- block `b` is the same, but for the ends of its critical edges, each of which is a block of its own that takes no
-- arguments
pub record IsKeptBlock (f : FunctionValue) (b : ℕ) (g : FunctionValue) : Type 0 where
  pub range : (block_at g b).range ≡ (block_at f b).range
  pub params : (block_at g b).params ≡ (block_at f b).params
  pub count : length (block_at g b).succs ≡ length (block_at f b).succs
  pub succs : (k : ℕ) → k < length (block_at f b).succs → is_critical f b k ≡ false →
      (slice_index (block_at g b).succs k ≡ slice_index (block_at f b).succs k) × (arguments_at g b k ≡ arguments_at f b k)
  pub split : (k : ℕ) → k < length (block_at f b).succs → is_critical f b k ≡ true →
      IsBetween f b k g (slice_index (block_at g b).succs k) × (arguments_at g b k ≡ [])

-- a new block belongs to a critical edge
pub record IsOfEdge (f g : FunctionValue) (n : ℕ) : Type 0 where
  pub from : ℕ
  pub position : ℕ
  pub block : from < length f.blocks
  pub successor : position < length (block_at f from).succs
  pub critical : is_critical f from position ≡ true
  pub end : slice_index (block_at g from).succs position ≡ n

-- the path over the split edges
abbrev pub split_path : FunctionValue → List Way → List Way
split_path f [] = []
split_path f (Onward ∷ ws) = Onward ∷ split_path f ws
split_path f (ToSuccessor k ∷ ws) =
    if is_critical f (end_of f ws).block k then ToSuccessor 0 ∷ ToSuccessor k ∷ split_path f ws else ToSuccessor k ∷ split_path f ws

-- the step on that path of a step on this one
abbrev pub split_step : FunctionValue → List Way → ℕ → ℕ
split_step f [] s = 0
split_step f (w ∷ ws) s = if nat_eq s (length (w ∷ ws)) then length (split_path f (w ∷ ws)) else split_step f ws s

-- a write, by its step on that path
abbrev pub split_stamp : FunctionValue → List Way → Stamp → Stamp
split_stamp f ws s = record { step = split_step f ws s.step; operand = s.operand }

-- each path of `f` is one of `g` with a jump on each split edge, and each path of `g` that ends in a block of `f` is
-- of that form; the paths end at the same instruction of the same block, and each vreg has the same last write
pub record HasSplitPaths (f g : FunctionValue) : Type 0 where
  pub paths : (ws : List Way) → IsPath f ws → IsPath g (split_path f ws)
  pub ends : (ws : List Way) → IsPath f ws → end_of g (split_path f ws) ≡ end_of f ws
  pub only : (vs : List Way) → IsPath g vs → (end_of g vs).block < length f.blocks → (ws : List Way) × IsPath f ws × (vs ≡ split_path f ws)
  pub writes : (ws : List Way) → IsPath f ws → (v : VirtualRegister) →
      source_before g (split_path f ws) v ≡ option_map (split_stamp f ws) (source_before f ws v)

-- `g` is `f` with a block on each critical edge, and no other change
pub record HasSplitEdges (f g : FunctionValue) : Type 0 where
  pub framed : IsFramed g
  pub predecessors : EachBlock g (PredecessorsAt g)
  pub no_critical_edge : EachBlock g (NotCriticalAt g)
  pub kept : (b : ℕ) → b < length f.blocks → IsKeptBlock f b g
  pub new : (n : ℕ) → length f.blocks ≤ n → n < length g.blocks → IsOfEdge f g n
  pub insts : (i : ℕ) → i < length f.insts → inst_at g i ≡ inst_at f i
  pub count : length g.insts + length f.blocks ≡ length f.insts + length g.blocks
  pub entry : g.entry ≡ f.entry
  pub num_vregs : g.num_vregs ≡ f.num_vregs
  pub slot_sizes : g.slot_sizes ≡ f.slot_sizes
  pub named_by_last_slot : g.named_by_last_slot ≡ f.named_by_last_slot
  pub labels : g.labels ≡ f.labels
  pub allows_multiple_defs : g.allows_multiple_defs ≡ f.allows_multiple_defs
  pub paths : HasSplitPaths f g

-- an edge, by its block and the position of its successor
pub record Edge : Type 0 where
  pub from : ℕ
  pub position : ℕ

-- the critical edges among the first `k` edges of block `b`
abbrev pub edges_upto : FunctionValue → ℕ → ℕ → List Edge
edges_upto f b zero = []
edges_upto f b (suc k) = edges_upto f b k ++ (if is_critical f b k then record { from = b; position = k } ∷ [] else [])

-- the critical edges of the first `b` blocks
abbrev pub edges_before : FunctionValue → ℕ → List Edge
edges_before f zero = []
edges_before f (suc b) = edges_before f b ++ edges_upto f b (length (block_at f b).succs)

-- the number of the block on the edge from block `b` at position `k`
abbrev pub number_on : FunctionValue → ℕ → ℕ → ℕ
number_on f b k = length f.blocks + length (edges_before f b ++ edges_upto f b k)

-- the block on an edge, as it is laid out
abbrev pub jump_on : FunctionValue → Edge → DraftValue
jump_on f e = record {
  params = [];
  insts = record { operands = []; clobbers = empty_set; is_branch = true; is_ret = false } ∷ [];
  succs = slice_index (block_at f e.from).succs e.position ∷ [];
  arguments = arguments_at f e.from e.position ∷ [];
}

-- `jumps` are the blocks on the critical edges of the first `b` blocks and among the first `k` edges of block `b`
abbrev pub AreJumps : FunctionValue → ℕ → ℕ → List DraftValue → Type 0
AreJumps f b k jumps = jumps ≡ map (jump_on f) (edges_before f b ++ edges_upto f b k)

-- the edge from block `b` at position `k` is split next: the new blocks so far are on the edges before it
pub record IsToSplit (f : FunctionValue) (b k : ℕ) (counts : List ℕ) (jumps : List DraftValue) : Type 0 where
  pub counted : IsCountedBlock f b counts
  pub before : AreJumps f b k jumps

-- a successor and its arguments, where the edge is split if it is critical
abbrev pub split_succ : FunctionValue → ℕ → ℕ → ℕ
split_succ f b k = if is_critical f b k then number_on f b k else slice_index (block_at f b).succs k

abbrev pub split_arguments : FunctionValue → ℕ → ℕ → List VirtualRegister
split_arguments f b k = if is_critical f b k then [] else arguments_at f b k

-- a block whose critical edges are split, as it is laid out
abbrev pub kept_block : FunctionValue → ℕ → DraftValue
kept_block f b = record {
  params = (block_at f b).params;
  insts = map (inst_at f) (range_with_len (block_at f b).range.first ((block_at f b).range.end - (block_at f b).range.first));
  succs = map (split_succ f b) (range_with_len 0 (length (block_at f b).succs));
  arguments = map (split_arguments f b) (range_with_len 0 (length (block_at f b).succs));
}

-- all blocks with their critical edges split, and behind them the new blocks
abbrev pub split_drafts : FunctionValue → List DraftValue
split_drafts f =
    map (kept_block f) (range_with_len 0 (length f.blocks)) ++ map (jump_on f) (edges_before f (length f.blocks))

-- how many critical edges leave a block
abbrev pub critical_from : FunctionValue → ℕ → ℕ
critical_from f b = count_by (is_critical f b) (range_with_len 0 (length (block_at f b).succs))

-- how many critical edges there are
abbrev pub critical_in : FunctionValue → ℕ
critical_in f = sum_by (critical_from f) (range_with_len 0 (length f.blocks))

-- why critical edges aren't split
abbrev pub IsUnsplit : FunctionValue → RewriteError → Type 0
IsUnsplit f Memory = Unit {0}
IsUnsplit f Unframed = IsFramed f → ⊥
IsUnsplit f NoOrder = ⊥
IsUnsplit f Labels = ⊥
IsUnsplit f TooManyBlocks = 2 ^ 32 - 1 ≤ length f.blocks + critical_in f
IsUnsplit f TooManyInsts = 2 ^ 30 ≤ length f.insts + critical_in f
