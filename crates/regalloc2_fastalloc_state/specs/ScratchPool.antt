-- The moves of a branch, once they are in order, as they are pushed; what is said of scratch places is passed on from
-- the parts.
use Rattle.std.specs.Prelude.{ℕ, ◌++◌, ◌∷◌, [], List}
use Rattle.regalloc2_function.specs.OutputValue.{MoveValue}
pub use Rattle.regalloc2_parts.specs.ScratchPool.{Moves, IsOfScratchPair, IsScratchTaken, DoDiffer, IsUsableFor, IsOrderedWith, HasTooFewSlots, AreThere}

-- parallel moves at a point, in the order in which they are pushed: the last one first
abbrev pub pushed : ℕ → Moves → List (ℕ × MoveValue)
pushed point [] = []
pushed point (m ∷ ms) = pushed point ms ++ (point, record { from = m.0; to = m.1 }) ∷ []
