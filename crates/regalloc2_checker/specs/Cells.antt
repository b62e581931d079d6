-- When the places that an output names are memory: cells of their own.
-- The checker knows places by their names alone; what makes the names real is this project's own.
use Rattle.std.specs.Prelude.{ℕ, ◌≡◌, ◌+◌, ◌<◌, ◌≤◌, ◌⊎◌, Bool, true, false, length, slice_index_or, Some}
use Rattle.regalloc2_names.specs.declared.RegClass.{RegClass}
use Rattle.regalloc2_names.specs.Register.{Register}
use Rattle.regalloc2_names.specs.Operand.{OperandValue, nonallocatable_register, is_fixed_nonallocatable}
use Rattle.regalloc2_names.specs.Place.{Place, NoPlace, InRegister, InSlot}
use Rattle.regalloc2_function.specs.FunctionValue.{FunctionValue, inst_at, slot_size, no_operand}
use Rattle.regalloc2_function.specs.Machine.{MachineValue}
use Rattle.regalloc2_function.specs.OutputValue.{OutputValue, MoveValue, allocs_of, place_at}
use Rattle.regalloc2_semantics.specs.Places.{IsValidPlace, IsMoveEnd}

-- the operand of an instruction by its index, its place, the move of an index, and the place of a debug location
abbrev pub operand_of : FunctionValue → ℕ → ℕ → OperandValue
operand_of f i k = slice_index_or (inst_at f i).operands k no_operand

abbrev pub move_of_index : OutputValue → ℕ → MoveValue
move_of_index out k = (slice_index_or out.edits k (0, record { from = NoPlace; to = NoPlace })).1

abbrev pub location_of_index : OutputValue → ℕ → Place
location_of_index out k = (slice_index_or out.debug_locations k (record { label = 0; start = 0; end = 0; place = NoPlace })).place

-- an operand is where its class may be, or in the register that it names in place of a vreg
pub record IsOperandCell (env : MachineValue) (out : OutputValue) (o : OperandValue) (p : Place) : Type 0 where
  pub proper : is_fixed_nonallocatable o ≡ false → IsValidPlace env out o.vreg.class p
  pub nonallocatable : (r : Register) → nonallocatable_register o ≡ Some r → p ≡ InRegister r

-- between two registers, a move stays within a class
abbrev pub IsWithinClass : MoveValue → Type 0
IsWithinClass m = (r s : Register) → m.from ≡ InRegister r → m.to ≡ InRegister s → r.class ≡ s.class

-- how many units a slot takes beside the other end of a move: as many as the class of a register, and one at least
abbrev pub units_beside : FunctionValue → Place → ℕ
units_beside f NoPlace = 1
units_beside f (InRegister r) = slot_size f.slot_sizes r.class
units_beside f (InSlot n) = 1

-- operand k of instruction i is in slot n, which takes u units there
abbrev pub IsTakenByOperand : FunctionValue → OutputValue → ℕ → ℕ → ℕ → ℕ → Type 0
IsTakenByOperand f out i k n u = (place_at (allocs_of out i) k ≡ InSlot n) × (u ≡ slot_size f.slot_sizes (operand_of f i k).vreg.class)

abbrev pub IsTakenByInst : FunctionValue → OutputValue → ℕ → ℕ → ℕ → Type 0
IsTakenByInst f out i n u = (k : ℕ) × (k < length (inst_at f i).operands) × IsTakenByOperand f out i k n u

abbrev pub IsTakenByMove : FunctionValue → MoveValue → ℕ → ℕ → Type 0
IsTakenByMove f m n u = ((m.from ≡ InSlot n) × (u ≡ units_beside f m.to)) ⊎ ((m.to ≡ InSlot n) × (u ≡ units_beside f m.from))

abbrev pub IsTakenByLocation : OutputValue → ℕ → ℕ → ℕ → Type 0
IsTakenByLocation out k n u = (location_of_index out k ≡ InSlot n) × (u ≡ 1)

abbrev pub IsSlotTaken : FunctionValue → OutputValue → ℕ → ℕ → Type 0
IsSlotTaken f out n u = ((i : ℕ) × (i < length f.insts) × IsTakenByInst f out i n u)
    ⊎ ((k : ℕ) × (k < length out.edits) × IsTakenByMove f (move_of_index out k) n u)
    ⊎ ((k : ℕ) × (k < length out.debug_locations) × IsTakenByLocation out k n u)

-- slot n, of u units, is within the frame of count slots
abbrev pub IsInFrame : Bool → ℕ → ℕ → ℕ → Type 0
IsInFrame true count n u = (u ≤ n + 1) × (n < count)
IsInFrame false count n u = n + u ≤ count

-- two slots with their units, the first of the lower number, share none: the last of a slot's units, or the first, has its number
abbrev pub AreUnitsApart : Bool → ℕ → ℕ → ℕ → ℕ → Type 0
AreUnitsApart true m u n w = m + w ≤ n
AreUnitsApart false m u n w = m + u ≤ n

-- each place is one of the machine's where its class may be, or a slot below the count; and moves stay within a class
pub record ArePlacesOfMachine (f : FunctionValue) (env : MachineValue) (out : OutputValue) : Type 0 where
  pub operands : (i : ℕ) → i < length f.insts → (k : ℕ) → k < length (inst_at f i).operands →
      IsOperandCell env out (operand_of f i k) (place_at (allocs_of out i) k)
  pub moves : (k : ℕ) → k < length out.edits → IsMoveEnd env out (move_of_index out k).from × IsMoveEnd env out (move_of_index out k).to
  pub classes : (k : ℕ) → k < length out.edits → IsWithinClass (move_of_index out k)
  pub locations : (k : ℕ) → k < length out.debug_locations → (c : RegClass) × IsValidPlace env out c (location_of_index out k)

-- Places are cells: they are the machine's, each slot is within the frame, and no two slots that are named share a unit.
pub record AreCells (f : FunctionValue) (env : MachineValue) (out : OutputValue) : Type 0 where
  pub places : ArePlacesOfMachine f env out
  pub frame : (n u : ℕ) → IsSlotTaken f out n u → IsInFrame f.named_by_last_slot out.num_spillslots n u
  pub apart : (m u n w : ℕ) → m < n → IsSlotTaken f out m u → IsSlotTaken f out n w → AreUnitsApart f.named_by_last_slot m u n w
