-- The words of the faults of an output, and which faults they are.
use Rattle.std.specs.Prelude.{ℕ, ◌≡◌, ◌⊎◌, ◌/◌, ◌%◌, ◌^◌, List, [], ◌∷◌, ◌++◌, map, length, zero, suc, Bool, ◌&&◌, nat_eq, nat_lt, if◌then◌else◌}
use Rattle.std.specs.List.{flat_map}
use Rattle.std.specs.Global.{Vec}
use Rattle.std.specs.declared.alloc.Global.{Global}
use Rattle.regalloc2_names.specs.Operand.{OperandValue}
use Rattle.regalloc2_names.specs.Packing.{bits_of_operand}
use Rattle.regalloc2_names.specs.Place.{Place, NoPlace}
use Rattle.regalloc2_names.specs.PlaceBits.{bits_of_place}
use Rattle.regalloc2_names.specs.Register.{VirtualRegister}
use Rattle.regalloc2_names.specs.RegisterBits.{bits_of_vreg}
use Rattle.regalloc2_function.specs.FunctionValue.{FunctionValue, inst_at, op_at}
use Rattle.regalloc2_function.specs.Machine.{MachineValue}
use Rattle.regalloc2_function.specs.OutputValue.{OutputValue, IsInOrder, place_at, allocs_of}
use Rattle.regalloc2_semantics.specs.Faithful.{IsFaithful}
use Rattle.regalloc2_checker.specs.Cells.{AreCells}
use Rattle.regalloc2_checker.specs.CellFaults.{IsCellFault}
use Rattle.regalloc2_checker.specs.Report.{IsReport}
use Rattle.regalloc2_checker.specs.declared.cells.CellFault.{CellFault}
use Rattle.regalloc2_checker.specs.declared.cells.CellFault.TheVariants.{Operand, MoveEnd, OtherClass, Location, Slot, Shared, Memory as CellMemory}
use Rattle.regalloc2_checker.specs.declared.errors.CheckerError.{CheckerError}
use Rattle.regalloc2_checker.specs.declared.errors.CheckerError.TheVariants.{MissingAllocation, UnknownValueInAllocation, ConflictedValueInAllocation}
use Rattle.regalloc2_checker.specs.declared.errors.CheckerError.TheVariants.{IncorrectValuesInAllocation, ConstraintViolated, AllocationIsNotReg}
use Rattle.regalloc2_checker.specs.declared.errors.CheckerError.TheVariants.{AllocationIsNotFixedReg, AllocationIsNotReuse, AllocationIsNotStack}
use Rattle.regalloc2_checker.specs.declared.errors.CheckerError.TheVariants.{StackToStackMove, AllocationOutsideLimit, MalformedOutput, Memory}
use Rattle.regalloc2_c.specs.Payload.{none, as_word}
use Rattle.regalloc2_c.specs.declared.failure.Failure.{Failure}
use Rattle.regalloc2_c.specs.declared.failure.Failure.TheVariants.{Faults, NoMemory}

-- the first number from k on, of n, that passes a test, as a word
abbrev pub first_index : (ℕ → Bool) → ℕ → ℕ → ℕ
first_index test k zero = none
first_index test k (suc n) = if test k then as_word k else first_index test (suc k) n

-- whether operand `k` has the encoding of `op` and is in the place `p`
abbrev pub is_placed : List OperandValue → List Place → OperandValue → Place → ℕ → Bool
is_placed ops places op p k = nat_eq (bits_of_operand (op_at ops k)) (bits_of_operand op)
    && nat_eq (bits_of_place (place_at places k)) (bits_of_place p)

-- the index of the first operand of instruction `i` with the encoding of `op` that is in the place `p`
abbrev pub operand_index : FunctionValue → OutputValue → ℕ → OperandValue → Place → ℕ
operand_index f out i op p = if nat_lt i (length f.insts)
    then first_index (is_placed (inst_at f i).operands (allocs_of out i) op p) 0 (length (inst_at f i).operands) else none

-- a fault of an operand: its number, the instruction, the operand's index, its encoding, the lower half first, its place, another place, and a bound
abbrev pub operand_head : FunctionValue → OutputValue → ℕ → ℕ → OperandValue → Place → Place → ℕ → List ℕ
operand_head f out number inst op p other bound = number ∷ inst ∷ operand_index f out inst op p ∷ bits_of_operand op % 2 ^ 32 ∷ bits_of_operand op / 2 ^ 32
    ∷ bits_of_place p ∷ bits_of_place other ∷ bound ∷ []

-- a fault up to its list of vregs, by the number of the checker's text
abbrev pub fault_head : {A : Type 0} → FunctionValue → OutputValue → CheckerError A → List ℕ
fault_head f out (MissingAllocation inst op) = operand_head f out 1 inst op NoPlace NoPlace 0
fault_head f out (UnknownValueInAllocation inst op p) = operand_head f out 2 inst op p NoPlace 0
fault_head f out (ConflictedValueInAllocation inst op p) = operand_head f out 3 inst op p NoPlace 0
fault_head f out (IncorrectValuesInAllocation inst op p actual) = operand_head f out 4 inst op p NoPlace 0
fault_head f out (ConstraintViolated inst op p) = operand_head f out 5 inst op p NoPlace 0
fault_head f out (AllocationIsNotReg inst op p) = operand_head f out 6 inst op p NoPlace 0
fault_head f out (AllocationIsNotFixedReg inst op p) = operand_head f out 7 inst op p NoPlace 0
fault_head f out (AllocationIsNotReuse inst op p expected) = operand_head f out 8 inst op p expected 0
fault_head f out (AllocationIsNotStack inst op p) = operand_head f out 9 inst op p NoPlace 0
fault_head f out (StackToStackMove into from) = 10 ∷ none ∷ none ∷ 0 ∷ 0 ∷ bits_of_place into ∷ bits_of_place from ∷ 0 ∷ []
fault_head f out (AllocationOutsideLimit inst op p range) = operand_head f out 11 inst op p NoPlace (as_word range.end)
fault_head f out MalformedOutput = 12 ∷ none ∷ none ∷ 0 ∷ 0 ∷ 0 ∷ 0 ∷ 0 ∷ []
fault_head f out Memory = 13 ∷ none ∷ none ∷ 0 ∷ 0 ∷ 0 ∷ 0 ∷ 0 ∷ []

-- the vregs whose values a place holds in place of its own
abbrev pub fault_vregs : {A : Type 0} → CheckerError A → List VirtualRegister
fault_vregs (MissingAllocation inst op) = []
fault_vregs (UnknownValueInAllocation inst op p) = []
fault_vregs (ConflictedValueInAllocation inst op p) = []
fault_vregs (IncorrectValuesInAllocation inst op p actual) = actual.items
fault_vregs (ConstraintViolated inst op p) = []
fault_vregs (AllocationIsNotReg inst op p) = []
fault_vregs (AllocationIsNotFixedReg inst op p) = []
fault_vregs (AllocationIsNotReuse inst op p expected) = []
fault_vregs (AllocationIsNotStack inst op p) = []
fault_vregs (StackToStackMove into from) = []
fault_vregs (AllocationOutsideLimit inst op p range) = []
fault_vregs MalformedOutput = []
fault_vregs Memory = []

-- a fault is eight words and a list of vregs
abbrev pub fault_words : {A : Type 0} → FunctionValue → OutputValue → CheckerError A → List ℕ
fault_words f out e = fault_head f out e ++ length (fault_vregs e) ∷ map bits_of_vreg (fault_vregs e)

-- faults are a list of the words of each
abbrev pub faults_words : {A : Type 0} → FunctionValue → OutputValue → List (CheckerError A) → List ℕ
faults_words f out es = length es ∷ flat_map (fault_words f out) es

-- the list of the one fault of an output that isn't in order
abbrev pub malformed_words : List ℕ
malformed_words = 1 ∷ 12 ∷ none ∷ none ∷ 0 ∷ 0 ∷ 0 ∷ 0 ∷ 0 ∷ 0 ∷ []

-- the list of one fault of places: its number, the instruction, the index of an operand or a move or the number of a slot, and, after four
-- words that are 0, the index of a debug location or the number of another slot
abbrev pub cell_fault_words : CellFault → List ℕ
cell_fault_words (Operand i k) = 1 ∷ 14 ∷ i ∷ as_word k ∷ 0 ∷ 0 ∷ 0 ∷ 0 ∷ 0 ∷ 0 ∷ []
cell_fault_words (MoveEnd k) = 1 ∷ 14 ∷ none ∷ as_word k ∷ 0 ∷ 0 ∷ 0 ∷ 0 ∷ 0 ∷ 0 ∷ []
cell_fault_words (Location k) = 1 ∷ 14 ∷ none ∷ none ∷ 0 ∷ 0 ∷ 0 ∷ 0 ∷ as_word k ∷ 0 ∷ []
cell_fault_words (OtherClass k) = 1 ∷ 15 ∷ none ∷ as_word k ∷ 0 ∷ 0 ∷ 0 ∷ 0 ∷ 0 ∷ 0 ∷ []
cell_fault_words (Slot n) = 1 ∷ 16 ∷ none ∷ as_word n ∷ 0 ∷ 0 ∷ 0 ∷ 0 ∷ 0 ∷ 0 ∷ []
cell_fault_words (Shared m n) = 1 ∷ 17 ∷ none ∷ as_word m ∷ 0 ∷ 0 ∷ 0 ∷ 0 ∷ as_word n ∷ 0 ∷ []
cell_fault_words CellMemory = 1 ∷ 13 ∷ none ∷ none ∷ 0 ∷ 0 ∷ 0 ∷ 0 ∷ 0 ∷ 0 ∷ []

-- a failure has the words `words`, or memory ran out; more than 2^32 faults, or vregs of a fault, count as that
abbrev pub IsFaultsTold : List ℕ → Failure → Type 0
IsFaultsTold words e = (e ≡ NoMemory) ⊎ ((v : Vec ℕ) × (e ≡ Faults v) × (v.items ≡ words))

-- where the checker didn't take an output: memory was refused, or it isn't in order
abbrev pub IsPrepareFailure : CheckerError Global → Failure → Type 0
IsPrepareFailure error e = ((error ≡ Memory) × (e ≡ NoMemory)) ⊎ ((error ≡ Memory → ⊥) × IsFaultsTold malformed_words e)

-- where the checker found errors: `Memory` alone says that memory was refused
abbrev pub IsErrorsFailure : FunctionValue → OutputValue → List (CheckerError Global) → Failure → Type 0
IsErrorsFailure f out es e = ((es ≡ Memory ∷ []) × (e ≡ NoMemory)) ⊎ ((es ≡ Memory ∷ [] → ⊥) × IsFaultsTold (faults_words f out es) e)

-- where places aren't cells
abbrev pub IsCellsTold : CellFault → Failure → Type 0
IsCellsTold fault e = (e ≡ NoMemory) ⊎ ((fault ≡ CellMemory → ⊥) × (v : Vec ℕ) × (e ≡ Faults v) × (v.items ≡ cell_fault_words fault))

-- `words` are the words of the faults of an output: it isn't in order; or all that the checker finds; or, if it finds none, the first that keeps
-- its places from being cells
abbrev pub AreFaultsOf : FunctionValue → MachineValue → OutputValue → List ℕ → Type 0
AreFaultsOf f env out words =
    ((IsInOrder f out → ⊥) × (words ≡ malformed_words))
    ⊎ (IsInOrder f out × (IsFaithful f env out → ⊥) × (es : List (CheckerError Global)) × IsReport f env out es × (words ≡ faults_words f out es))
    ⊎ (IsInOrder f out × IsFaithful f env out × (AreCells f env out → ⊥) × (fault : CellFault) × IsCellFault f env out fault
    × (fault ≡ CellMemory → ⊥) × (words ≡ cell_fault_words fault))

-- what the checker alone says of an output: memory was refused, it isn't in order, or it isn't faithful
abbrev pub IsCheckerVerdict : FunctionValue → MachineValue → OutputValue → Failure → Type 0
IsCheckerVerdict f env out e = (e ≡ NoMemory) ⊎ ((v : Vec ℕ) × (e ≡ Faults v) × (((IsInOrder f out → ⊥) × (v.items ≡ malformed_words))
    ⊎ (IsInOrder f out × (IsFaithful f env out → ⊥) × (es : List (CheckerError Global)) × IsReport f env out es × (v.items ≡ faults_words f out es))))

-- why an output isn't accepted: memory was refused, or it has faults
abbrev pub IsVerdict : FunctionValue → MachineValue → OutputValue → Failure → Type 0
IsVerdict f env out e = (e ≡ NoMemory) ⊎ ((v : Vec ℕ) × (e ≡ Faults v) × (IsInOrder f out × IsFaithful f env out × AreCells f env out → ⊥)
    × AreFaultsOf f env out v.items)
