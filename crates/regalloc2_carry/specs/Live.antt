-- Blocks that carry values from place to place: the live vregs are in their places where a path comes to a block.
use Rattle.std.specs.Prelude.{ℕ, ◌≡◌, ◌<◌, List, length, Option, Some, IsSome}
use Rattle.regalloc2_names.specs.Register.{VirtualRegister}
use Rattle.regalloc2_names.specs.Place.{Place}
use Rattle.regalloc2_function.specs.FunctionValue.{FunctionValue, block_at}
use Rattle.regalloc2_function.specs.Machine.{MachineValue}
use Rattle.regalloc2_function.specs.OutputValue.{OutputValue}
use Rattle.regalloc2_function.specs.WellFormed.{IsWellFormed}
use Rattle.regalloc2_semantics.specs.Runs.{Way, first_of, end_of, IsPath, IsDefinitelyAssigned, IsReached, source_before, cells_before}
use Rattle.regalloc2_semantics.specs.Live.{IsLive}
use Rattle.regalloc2_carry.specs.BlockByPoints.{block_walked, Rising, EndsQuiet}
use Rattle.regalloc2_carry.specs.Blocks.{BlockCarriesOn}

-- the path ends at the first instruction of a block
abbrev pub HasEntered : FunctionValue → List Way → Type 0
HasEntered f ws = (end_of f ws).inst ≡ (block_at f (end_of f ws).block).range.first

-- before a path's last step v has a value (a parameter the one that the edge gave it), and the place holds it
abbrev pub HoldsValueAt : FunctionValue → OutputValue → List Way → Place → VirtualRegister → Type 0
HoldsValueAt f out ws p v = IsSome (source_before f ws v) × (cells_before f out ws p ≡ source_before f ws v)

-- whenever a path enters a block, the place of each vreg that is live there holds its value
abbrev pub LiveStandInPlaces : FunctionValue → OutputValue → (ℕ → VirtualRegister → Option Place) → Type 0
LiveStandInPlaces f out stand = (ws : List Way) → IsPath f ws → HasEntered f ws → (v : VirtualRegister) (p : Place) → IsLive f v (end_of f ws) →
    stand (end_of f ws).block v ≡ Some p → HoldsValueAt f out ws p v

-- live vregs stand in their places if every vreg is definitely assigned, and every reachable block carries values from
-- their places at its beginning to their places at the next block's beginning, with listings built from the program
-- points of the moves
abbrev pub LiveStandWhereBlocksCarryOn : Type 0
LiveStandWhereBlocksCarryOn = (env : MachineValue) (f : FunctionValue) (out : OutputValue) (stand : ℕ → VirtualRegister → Option Place) →
    IsWellFormed env f → IsDefinitelyAssigned f → Rising out.edits → ((b : ℕ) → b < length f.blocks → EndsQuiet f out b) →
    ((b : ℕ) → IsReached f (first_of f b) → BlockCarriesOn f stand b (block_walked f out b)) → LiveStandInPlaces f out stand
