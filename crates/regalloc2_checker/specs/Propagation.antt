-- What is passed on over a block's edges, and which blocks have no need to be.
use Rattle.std.specs.Prelude.{ℕ, ◌≡◌, ◌+◌, ◌-◌, ◌<◌, Bool, true, false, if◌then◌else◌, List, length, slice_index, get_or, slice_set, All, Contains}
use Rattle.std.specs.declared.cmp.Reverse.{Reverse}
use Rattle.regalloc2_names.specs.Register.{VirtualRegister}
use Rattle.regalloc2_names.specs.Place.{Place}
use Rattle.regalloc2_function.specs.FunctionValue.{FunctionValue, block_at}
use Rattle.regalloc2_function.specs.OutputValue.{OutputValue}
use Rattle.regalloc2_semantics.specs.Runs.{ToSuccessor, first_of}
use Rattle.regalloc2_checker.specs.Showing.{Showing, table_count}
use Rattle.regalloc2_checker.specs.Facts.{Facts, facts_over_edge}
use Rattle.regalloc2_checker.specs.Fixpoint.{facts_within}
use Rattle.regalloc2_checker.specs.Tables.{BlockView, view_at, IsMeet, AreSoundViews, EdgesSolved, BlockSolved}

-- the facts at a block's end, from the facts at its beginning
abbrev pub IsBlockEnd : FunctionValue → OutputValue → ℕ → Facts → Facts → Type 0
IsBlockEnd f o b F G = (p : Place) (v : VirtualRegister) → G p v ≡ facts_within f o b F ((block_at f b).range.end - (block_at f b).range.first) p v

-- whether a block changed since it was passed on
abbrev pub mark_at : List Bool → ℕ → Bool
mark_at marks b = get_or marks b true

-- the facts past edge k of block b, from the facts at the block's end
abbrev pub over : FunctionValue → ℕ → ℕ → Facts → Facts
over f b k F = facts_over_edge f (first_of f b) (ToSuccessor k) F

-- facts are passed over an edge, and the successor has a mark where it changed
pub record IsPropagatedOver (f : FunctionValue) (b k : ℕ) (F : Facts) (old new : List BlockView) (marks after : List Bool) (changed : Bool) : Type 0 where
  pub met : IsMeet old new (slice_index (block_at f b).succs k) (over f b k F) changed
  pub marked : after ≡ (if changed then slice_set marks (slice_index (block_at f b).succs k) true else marks)

-- a block without a mark is solved
pub record UnmarkedAreSolved (f : FunctionValue) (o : OutputValue) (t : List BlockView) (marks : List Bool) : Type 0 where
  pub size : length marks ≡ length f.blocks
  pub settled : (b : ℕ) → b < length f.blocks → mark_at marks b ≡ false → BlockSolved f o t b

-- the first k edges of block b are propagated since the table was old: where it has no mark, it is as it was, and these edges are solved
pub record ArePropagated (f : FunctionValue) (o : OutputValue) (old t : List BlockView) (marks : List Bool) (b k : ℕ) : Type 0 where
  pub size : length marks ≡ length f.blocks
  pub others : (c : ℕ) → c < length f.blocks → (c ≡ b → ⊥) → mark_at marks c ≡ false → BlockSolved f o t c
  pub here : mark_at marks b ≡ false → (view_at t b ≡ view_at old b) × EdgesSolved f o t b k

-- an entry of a queue: the block, and its rank before
abbrev pub queued_block : Reverse (ℕ × ℕ) → ℕ
queued_block x = x.0.1

-- a block has an entry
abbrev pub IsQueued : List (Reverse (ℕ × ℕ)) → ℕ → Type 0
IsQueued entries b = (x : Reverse (ℕ × ℕ)) × Contains entries x × (queued_block x ≡ b)

-- each block with a mark has an entry, and each entry is that of a block
pub record IsQueue (marks : List Bool) (entries : List (Reverse (ℕ × ℕ))) : Type 0 where
  pub marked : (b : ℕ) → b < length marks → mark_at marks b ≡ true → IsQueued entries b
  pub small : All (λ x. queued_block x < length marks) entries

-- each entry is of a block that is reached
abbrev pub AreReached : List BlockView → List (Reverse (ℕ × ℕ)) → Type 0
AreReached t entries = All (λ x. (view_at t (queued_block x)).reached ≡ true) entries

-- a block was taken from the queue, and is to be passed on
pub record IsReady (f : FunctionValue) (o : OutputValue) (t : List BlockView) (marks : List Bool) (entries : List (Reverse (ℕ × ℕ))) (b : ℕ) : Type 0 where
  pub sound : AreSoundViews f o t
  pub here : (view_at t b).reached ≡ true
  pub none : ArePropagated f o t t marks b 0
  pub queue : IsQueue marks entries
  pub reached : AreReached t entries

-- what stays true while blocks are passed on
pub record IsUnderWay (f : FunctionValue) (o : OutputValue) (t : List BlockView) (marks : List Bool) (entries : List (Reverse (ℕ × ℕ))) : Type 0 where
  pub sound : AreSoundViews f o t
  pub kept : UnmarkedAreSolved f o t marks
  pub queue : IsQueue marks entries
  pub reached : AreReached t entries

-- what an analysis has is of one function: a table for each block and one beside them
pub record AreSized (f : FunctionValue) (values : Showing) (rs ms : List Bool) : Type 0 where
  pub reached : length rs ≡ length f.blocks
  pub count : table_count values ≡ length f.blocks + 1
  pub marks : length ms ≡ length f.blocks
