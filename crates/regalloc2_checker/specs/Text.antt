-- The texts of errors: a line with a number, and the same line with words behind it.
use Rattle.std.specs.Prelude.{ℕ, codes, List, [], ◌∷◌, ◌++◌}
use Rattle.std.specs.Fmt.{decimal}
use Rattle.std.specs.List.{flat_map}
use Rattle.regalloc2_names.specs.Operand.{OperandValue}
use Rattle.regalloc2_names.specs.Place.{Place, NoPlace}
use Rattle.regalloc2_names.specs.Register.{VirtualRegister}
use Rattle.regalloc2_names.specs.Text.{class_vreg_text, operand_text, place_text}
use Rattle.regalloc2_names.specs.declared.OperandConstraint.{OperandConstraint}
use Rattle.regalloc2_names.specs.declared.OperandConstraint.TheVariants.{Any, Reg, Stack, FixedReg, Reuse, Limit}
use Rattle.regalloc2_checker.specs.declared.errors.CheckerError.{CheckerError}
use Rattle.regalloc2_checker.specs.declared.errors.CheckerError.TheVariants.{MissingAllocation, UnknownValueInAllocation, ConflictedValueInAllocation}
use Rattle.regalloc2_checker.specs.declared.errors.CheckerError.TheVariants.{IncorrectValuesInAllocation, ConstraintViolated, AllocationIsNotReg}
use Rattle.regalloc2_checker.specs.declared.errors.CheckerError.TheVariants.{AllocationIsNotFixedReg, AllocationIsNotReuse, AllocationIsNotStack}
use Rattle.regalloc2_checker.specs.declared.errors.CheckerError.TheVariants.{StackToStackMove, AllocationOutsideLimit, MalformedOutput, Memory}

-- a kind's number, and an instruction with an operand and its place, as error 2 inst1 Use: v0i reg [p8i]
abbrev pub operand_fault_text : ℕ → ℕ → OperandValue → Place → List ℕ
operand_fault_text number inst op p = codes "error " ++ decimal number ++ codes " inst" ++ decimal inst ++ codes " " ++ operand_text op ++ codes " ["
    ++ place_text p ++ codes "]"

abbrev pub fault_text : {A : Type 0} → CheckerError A → List ℕ
fault_text (MissingAllocation inst op) = operand_fault_text 1 inst op NoPlace
fault_text (UnknownValueInAllocation inst op p) = operand_fault_text 2 inst op p
fault_text (ConflictedValueInAllocation inst op p) = operand_fault_text 3 inst op p
fault_text (IncorrectValuesInAllocation inst op p actual) = operand_fault_text 4 inst op p
fault_text (ConstraintViolated inst op p) = operand_fault_text 5 inst op p
fault_text (AllocationIsNotReg inst op p) = operand_fault_text 6 inst op p
fault_text (AllocationIsNotFixedReg inst op p) = operand_fault_text 7 inst op p
fault_text (AllocationIsNotReuse inst op p expected) = operand_fault_text 8 inst op p
fault_text (AllocationIsNotStack inst op p) = operand_fault_text 9 inst op p
fault_text (StackToStackMove into from) = codes "error 10 " ++ place_text from ++ codes " -> " ++ place_text into
fault_text (AllocationOutsideLimit inst op p range) = operand_fault_text 11 inst op p
fault_text MalformedOutput = codes "error 12"
fault_text Memory = codes "error 13"

-- a vreg behind another one, as , v3f
abbrev pub next_vreg_text : VirtualRegister → List ℕ
next_vreg_text v = codes ", " ++ class_vreg_text v

-- as v0i, v3f
abbrev pub vregs_text : List VirtualRegister → List ℕ
vregs_text [] = []
vregs_text (v ∷ vs) = class_vreg_text v ++ flat_map next_vreg_text vs

-- what is wrong with an operand that names no other one, up to the number that it names, and that number
abbrev pub violated_words : OperandConstraint → List ℕ
violated_words Any = codes "no such operand"
violated_words Reg = codes "no such operand"
violated_words Stack = codes "no such operand"
violated_words (FixedReg r) = codes "no such operand"
violated_words (Reuse i) = codes "no operand "
violated_words (Limit n) = codes "no such operand"

abbrev pub violated_detail : OperandConstraint → List ℕ
violated_detail Any = []
violated_detail Reg = []
violated_detail Stack = []
violated_detail (FixedReg r) = []
violated_detail (Reuse i) = decimal i
violated_detail (Limit n) = []

-- what is wrong, up to the names in it
abbrev pub words_for : {A : Type 0} → CheckerError A → List ℕ
words_for (MissingAllocation inst op) = codes "no place"
words_for (UnknownValueInAllocation inst op p) = codes "the place holds nothing known"
words_for (ConflictedValueInAllocation inst op p) = codes "the place holds nothing known"
words_for (IncorrectValuesInAllocation inst op p actual) = codes "the place holds "
words_for (ConstraintViolated inst op p) = violated_words op.constraint
words_for (AllocationIsNotReg inst op p) = codes "not a register"
words_for (AllocationIsNotFixedReg inst op p) = codes "not the fixed register"
words_for (AllocationIsNotReuse inst op p expected) = codes "the operand that it reuses stands in "
words_for (AllocationIsNotStack inst op p) = codes "not in memory"
words_for (StackToStackMove into from) = codes "from memory to memory"
words_for (AllocationOutsideLimit inst op p range) = codes "past the limit"
words_for MalformedOutput = codes "the output is out of order"
words_for Memory = codes "out of memory"

-- the names behind the words
abbrev pub detail_text : {A : Type 0} → CheckerError A → List ℕ
detail_text (MissingAllocation inst op) = []
detail_text (UnknownValueInAllocation inst op p) = []
detail_text (ConflictedValueInAllocation inst op p) = []
detail_text (IncorrectValuesInAllocation inst op p actual) = vregs_text actual.items
detail_text (ConstraintViolated inst op p) = violated_detail op.constraint
detail_text (AllocationIsNotReg inst op p) = []
detail_text (AllocationIsNotFixedReg inst op p) = []
detail_text (AllocationIsNotReuse inst op p expected) = place_text expected
detail_text (AllocationIsNotStack inst op p) = []
detail_text (StackToStackMove into from) = []
detail_text (AllocationOutsideLimit inst op p range) = []
detail_text MalformedOutput = []
detail_text Memory = []

-- as error 4 inst3 Use: v1i reg [p9i]: the place holds v0i
abbrev pub error_text : {A : Type 0} → CheckerError A → List ℕ
error_text e = fault_text e ++ codes ": " ++ words_for e ++ detail_text e
