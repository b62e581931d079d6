-- What a depth-first walk begins with.
use Rattle.std.specs.Prelude.{ℕ, ◌≡◌, ◌<◌, Bool, false, List, [], length, replicate}
use Rattle.std.specs.Borrow.{Bor}
use Rattle.regalloc2_function.specs.Listed.{AreSuccessors, AreBlocks}

-- a depth-first walk may begin: the closure may be called for each block, and no block is visited or listed
pub record CanWalk (may_call : ℕ → Type 0) (answers : ℕ → Bor (List ℕ) → Type 0) (entry : ℕ) (visited : List Bool) (listed : List ℕ) : Type 0 where
  pub callable : (b : ℕ) → b < length visited → may_call b
  pub same : (succs : ℕ → List ℕ) × AreSuccessors answers (length visited) succs × AreBlocks succs (length visited) entry
  pub unvisited : visited ≡ replicate (length visited) false
  pub empty : listed ≡ []
