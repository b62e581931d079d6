-- Lists of blocks, one for each block.
use Rattle.std.specs.Prelude.{◌≡◌, ◌++◌, ℕ, List, [], drop, flat_map, length, map, replicate, slice_index, slice_index_or}
use Rattle.std.specs.declared.vec.Vec.{Vec}
use Rattle.regalloc2_index.specs.Range.{numbers_from}
use Rattle.regalloc2_function.specs.FunctionValue.{FunctionValue, block_at, EachBlock}
use Rattle.regalloc2_function.specs.WellFormed.{times_in}

-- the list of a number; none past the end
abbrev pub listed_of : {A : Type 0} → List (Vec ℕ A) → ℕ → List ℕ
listed_of ways n = slice_index_or (map (λ w. w.items) ways) n []

-- the blocks, of the first b, that go on to block n, in their order, once for each position
abbrev pub ways_of_first : FunctionValue → ℕ → ℕ → List ℕ
ways_of_first f b n = flat_map (λ p. replicate (times_in n (block_at f p).succs) p) (numbers_from 0 b)

-- each block's predecessors are listed in the order in which a pass over all successors meets them
abbrev pub ListedInOrder : FunctionValue → Type 0
ListedInOrder f = EachBlock f (λ n b. b.preds ≡ ways_of_first f (length f.blocks) n)

-- a pass over the first b blocks met the first predecessors of each list, and counted them
abbrev pub MetSoFar : FunctionValue → ℕ → List ℕ → Type 0
MetSoFar f b counts = EachBlock f (λ n block. (slice_index counts n ≡ length (ways_of_first f b n))
    × (block.preds ≡ ways_of_first f b n ++ drop (slice_index counts n) block.preds))
