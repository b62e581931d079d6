-- A block's listing: its instructions, each after the moves that run before it.
-- The order is as in upstream's `OutputIter`.
use Rattle.std.specs.Prelude.{ℕ, zero, suc, ◌+◌, ◌-◌, ◌<◌, ◌≤◌, nat_le, if◌then◌else◌, List, [], ◌∷◌, ◌++◌, map, filter}
use Rattle.regalloc2_names.specs.Place.{before}
use Rattle.regalloc2_function.specs.FunctionValue.{FunctionValue, block_at}
use Rattle.regalloc2_function.specs.OutputValue.{OutputValue, MoveValue, is_listed_at}

-- an item of a listing
pub data Listed : Type 0 where
  ListedInst : ℕ → Listed
  ListedMove : MoveValue → Listed

-- the moves that are listed before an instruction of the block that begins at `first`
abbrev pub moves_before : OutputValue → ℕ → ℕ → List MoveValue
moves_before o first i = map (λ e. e.1) (filter (λ e. is_listed_at first i e.0) o.edits)

-- the listing of `n` instructions of a block from the instruction `i` on; the block begins at `first`
unfoldable pub listing_from : OutputValue → ℕ → ℕ → ℕ → List Listed
listing_from o first i zero = []
listing_from o first i (suc n) = map (λ m. ListedMove m) (moves_before o first i) ++ (ListedInst i ∷ listing_from o first (i + 1) n)

-- the listing of a block
abbrev pub block_listing : FunctionValue → OutputValue → ℕ → List Listed
block_listing f o b = listing_from o (block_at f b).range.first (block_at f b).range.first ((block_at f b).range.end - (block_at f b).range.first)

-- an item is a move, or an instruction from first on and before end
abbrev pub IsListedWithin : ℕ → ℕ → Listed → Type 0
IsListedWithin first end (ListedInst i) = (first ≤ i) × (i < end)
IsListedWithin first end (ListedMove m) = Unit {0}

-- what is left of a listing where `edits` and `n` instructions from `i` on are left
unfoldable pub listing_left : List (ℕ × MoveValue) → ℕ → ℕ → List Listed
listing_left [] i zero = []
listing_left [] i (suc n) = ListedInst i ∷ listing_left [] (i + 1) n
listing_left (e ∷ es) i zero = []
listing_left (e ∷ es) i (suc n) = if nat_le e.0 (before i) then ListedMove e.1 ∷ listing_left es i (suc n) else ListedInst i ∷ listing_left (e ∷ es) (i + 1) n
