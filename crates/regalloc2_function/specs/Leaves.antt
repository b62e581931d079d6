-- The order in which a depth-first walk leaves blocks.
use Rattle.std.specs.Prelude.{ℕ, ◌≡◌, Bool, true, false, ◌||◌, nat_eq, List, [], ◌∷◌, ◌++◌}
use Rattle.regalloc2_function.specs.FunctionValue.{FunctionValue, block_at}

-- whether a number is in a list
unfoldable pub met : List ℕ → ℕ → Bool
met [] b = false
met (x ∷ xs) b = nat_eq x b || met xs b

-- A walk that has met the blocks `seen` goes to the blocks of a list in turn, and leaves blocks in an order: it passes by each block that it
-- has met, and enters each other block, goes to its successors as listed, and then leaves it.
pub data Leaves (succs : ℕ → List ℕ) : List ℕ → List ℕ → List ℕ → Type 0 where
  done : {seen : List ℕ} → Leaves succs seen [] []
  again : {seen : List ℕ} {b : ℕ} {bs order : List ℕ} → met seen b ≡ true → Leaves succs seen bs order → Leaves succs seen (b ∷ bs) order
  enter : {seen : List ℕ} {b : ℕ} {bs inner rest : List ℕ} → met seen b ≡ false → Leaves succs (b ∷ seen) (succs b) inner →
      Leaves succs (inner ++ b ∷ seen) bs rest → Leaves succs seen (b ∷ bs) (inner ++ b ∷ rest)

-- some path leads from a block to another
pub data Reaches (succs : ℕ → List ℕ) (entry : ℕ) : ℕ → Type 0 where
  here : Reaches succs entry entry
  onward : {b : ℕ} (s : ℕ) → Reaches succs entry b → met (succs b) s ≡ true → Reaches succs entry s

-- no number is twice in the list
abbrev pub ListsOnce : List ℕ → Type 0
ListsOnce [] = Unit {0}
ListsOnce (x ∷ xs) = (met xs x ≡ false) × ListsOnce xs

-- the successors of a block
abbrev pub succs_in : FunctionValue → ℕ → List ℕ
succs_in f b = (block_at f b).succs
