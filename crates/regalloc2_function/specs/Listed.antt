-- What a closure returns for blocks.
use Rattle.std.specs.Prelude.{ℕ, ◌≡◌, ◌<◌, List, ◌∷◌, All, flat_map}
use Rattle.std.specs.Borrow.{Bor}
use Rattle.regalloc2_index.specs.Range.{numbers_from}

-- the successors of `num` blocks, which the closure returns for each block at every call
abbrev pub AreSuccessors : (ℕ → Bor (List ℕ) → Type 0) → ℕ → (ℕ → List ℕ) → Type 0
AreSuccessors answers num succs = (b : ℕ) (r : Bor (List ℕ)) → b < num → answers b r → r.now ≡ succs b

-- the numbers that have to be blocks: the entry, and then the successors as listed
abbrev pub named_blocks : (ℕ → List ℕ) → ℕ → ℕ → List ℕ
named_blocks succs num entry = entry ∷ flat_map succs (numbers_from 0 num)

-- the entry and each successor is one of `num` blocks
abbrev pub AreBlocks : (ℕ → List ℕ) → ℕ → ℕ → Type 0
AreBlocks succs num entry = All (λ s. s < num) (named_blocks succs num entry)
