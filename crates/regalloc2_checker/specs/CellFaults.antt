-- Why the places that an output names aren't cells.
use Rattle.std.specs.Prelude.{ℕ, ◌≡◌, ◌≢◌, ◌-◌, ◌<◌, ◌≤◌, ◌⊎◌, Bool, true, false, List, length, slice_index_or, Some, Option, Contains}
use Rattle.regalloc2_names.specs.declared.RegClass.{RegClass}
use Rattle.regalloc2_function.specs.FunctionValue.{FunctionValue, inst_at}
use Rattle.regalloc2_function.specs.Machine.{MachineValue}
use Rattle.regalloc2_function.specs.OutputValue.{OutputValue, allocs_of, place_at}
use Rattle.regalloc2_semantics.specs.Places.{IsValidPlace, IsMoveEnd}
use Rattle.regalloc2_checker.specs.Cells.{operand_of, move_of_index, location_of_index, IsOperandCell, IsWithinClass, IsSlotTaken, IsInFrame, AreUnitsApart}
use Rattle.regalloc2_checker.specs.declared.cells.CellFault.{CellFault}
use Rattle.regalloc2_checker.specs.declared.cells.CellFault.TheVariants.{Operand, MoveEnd, OtherClass, Location, Slot, Shared, Memory}

-- the condition that an error names fails where the error says
abbrev pub IsCellFault : FunctionValue → MachineValue → OutputValue → CellFault → Type 0
IsCellFault f env out (Operand i k) = (i < length f.insts) × (k < length (inst_at f i).operands)
    × (IsOperandCell env out (operand_of f i k) (place_at (allocs_of out i) k) → ⊥)
IsCellFault f env out (MoveEnd k) = (k < length out.edits) × (IsMoveEnd env out (move_of_index out k).from × IsMoveEnd env out (move_of_index out k).to → ⊥)
IsCellFault f env out (OtherClass k) = (k < length out.edits) × (IsWithinClass (move_of_index out k) → ⊥)
IsCellFault f env out (Location k) = (k < length out.debug_locations) × ((c : RegClass) → IsValidPlace env out c (location_of_index out k) → ⊥)
IsCellFault f env out (Slot n) = (u : ℕ) × IsSlotTaken f out n u × (IsInFrame f.named_by_last_slot out.num_spillslots n u → ⊥)
IsCellFault f env out (Shared m n) = (u w : ℕ) × (m < n) × IsSlotTaken f out m u × IsSlotTaken f out n w × (AreUnitsApart f.named_by_last_slot m u n w → ⊥)
IsCellFault f env out Memory = Unit {0}

-- the slot of a list at an index, with its units
abbrev pub slot_at : List (ℕ × ℕ) → ℕ → (ℕ × ℕ)
slot_at named k = slice_index_or named k (0, 0)

-- a number doesn't come after another one in the order in which slots are compared, which rises if they are named by their last units, else falls
abbrev pub ComesBefore : Bool → ℕ → ℕ → Type 0
ComesBefore true m n = m ≤ n
ComesBefore false m n = n ≤ m

abbrev pub AreTurned : Bool → List (ℕ × ℕ) → Type 0
AreTurned by_last named = (i j : ℕ) → i ≤ j → j < length named → ComesBefore by_last (slot_at named i).0 (slot_at named j).0

-- no two share a unit
abbrev pub AreAllApart : Bool → List (ℕ × ℕ) → Type 0
AreAllApart by_last named = (m u n w : ℕ) → m < n → Contains named (m, u) → Contains named (n, w) → AreUnitsApart by_last m u n w

-- two do
abbrev pub IsShared : Bool → List (ℕ × ℕ) → ℕ → ℕ → Type 0
IsShared by_last named m n = (u w : ℕ) × (m < n) × Contains named (m, u) × Contains named (n, w) × (AreUnitsApart by_last m u n w → ⊥)

-- what is wrong with slots, of which there are count
abbrev pub IsSlotFault : Bool → ℕ → List (ℕ × ℕ) → CellFault → Type 0
IsSlotFault by_last count named (Operand i k) = ⊥
IsSlotFault by_last count named (MoveEnd k) = ⊥
IsSlotFault by_last count named (OtherClass k) = ⊥
IsSlotFault by_last count named (Location k) = ⊥
IsSlotFault by_last count named (Slot n) = (u : ℕ) × Contains named (n, u) × (IsInFrame by_last count n u → ⊥)
IsSlotFault by_last count named (Shared m n) = IsShared by_last named m n
IsSlotFault by_last count named Memory = ⊥

-- how a slot is gone on to: the slot before it stays, or is the one that was current
abbrev pub IsNextSlot : ℕ → (Option ℕ × Option ℕ) → (Option ℕ × Option ℕ) → Type 0
IsNextSlot n old now = ((old.0 ≡ Some n) × (now ≡ old)) ⊎ ((old.0 ≢ Some n) × (now.0 ≡ Some n) × (now.1 ≡ old.0))

-- a slot reaches another one that comes before it
abbrev pub SlotReaches : Bool → (ℕ × ℕ) → ℕ → Type 0
SlotReaches true s other = s.0 - other < s.1
SlotReaches false s other = other - s.0 < s.1
