-- The operands and clobbers of an operation, as the allocator reads them.
use Rattle.std.specs.Prelude.{ℕ, Bool, true, false, ◌||◌, List, [], ◌∷◌, Option, None, Some}
use Rattle.regalloc2_names.specs.Register.{Register, VirtualRegister, is_register}
use Rattle.regalloc2_names.specs.Operand.{OperandValue}
use Rattle.regalloc2_names.specs.declared.OperandConstraint.{OperandConstraint}
use Rattle.regalloc2_names.specs.declared.RegClass.TheVariants.{Int}
use Rattle.regalloc2_names.specs.declared.OperandConstraint.TheVariants.{Any, Reg, FixedReg, Reuse}
use Rattle.regalloc2_names.specs.declared.OperandKind.TheVariants.{Def, Use}
use Rattle.regalloc2_names.specs.declared.OperandPos.TheVariants.{Early, Late}
use Rattle.codegen_operation.specs.declared.operation.Operation.{Operation}
use Rattle.codegen_operation.specs.declared.operation.Operation.TheVariants.{Argument, Constant, Copy, Compute, Shift, Divide, Compare, Select, Jump, BranchIf, BranchIfHolds}
use Rattle.codegen_operation.specs.declared.operation.Operation.TheVariants.{Load, Store, Call, Return}
use Rattle.codegen_operation.specs.declared.operation.DivisionPart.{DivisionPart}
use Rattle.codegen_operation.specs.declared.operation.DivisionPart.TheVariants.{Quotient, Remainder}
use Rattle.codegen_operation.specs.declared.operation.Count.{Count}
use Rattle.codegen_operation.specs.declared.operation.Count.TheVariants.{VReg as CountIn, Number as CountOf}
use Rattle.codegen_operation.specs.declared.operation.Right.{Right}
use Rattle.codegen_operation.specs.declared.operation.Right.TheVariants.{VReg, Number}

-- a late definition, and an early use
abbrev pub def_in : OperandConstraint → VirtualRegister → OperandValue
def_in c v = record { vreg = v; constraint = c; kind = Def; position = Late }

abbrev pub use_in : OperandConstraint → VirtualRegister → OperandValue
use_in c v = record { vreg = v; constraint = c; kind = Use; position = Early }

-- a second number may be read from any place, unless it is a constant
abbrev pub right_in : Right → List OperandValue
right_in (VReg v) = use_in Any v ∷ []
right_in (Number n) = []

-- a shift count is read from register 1, unless it is a constant
abbrev pub count_in : Count → List OperandValue
count_in (CountIn v) = use_in (FixedReg (record { number = 1; class = v.class })) v ∷ []
count_in (CountOf n) = []

-- the register into which the processor writes the result of a division, and the register for its other result
abbrev pub part_register : DivisionPart → ℕ
part_register Quotient = 0
part_register Remainder = 2

abbrev pub other_register : DivisionPart → ℕ
other_register Quotient = 2
other_register Remainder = 0

-- a division reads its dividend from register 0, and its divisor late, from any place
abbrev pub divide_operands : DivisionPart → VirtualRegister → VirtualRegister → VirtualRegister → List OperandValue
divide_operands part to left right = def_in (FixedReg (record { number = part_register part; class = to.class })) to
    ∷ use_in (FixedReg (record { number = 0; class = left.class })) left
    ∷ record { vreg = right; constraint = Any; kind = Use; position = Late } ∷ []

-- the registers in which a call passes its first arguments, in order
abbrev pub argument_registers : List ℕ
argument_registers = 7 ∷ 6 ∷ 2 ∷ 1 ∷ 8 ∷ 9 ∷ []

-- an argument passed in a register, and one passed on the stack, which the call reads late, from any place
abbrev pub passed_in : ℕ → VirtualRegister → OperandValue
passed_in r v = use_in (FixedReg (record { number = r; class = v.class })) v

abbrev pub passed_on_stack : VirtualRegister → OperandValue
passed_on_stack v = record { vreg = v; constraint = Any; kind = Use; position = Late }

-- an argument, given the register that passes it, if one does
abbrev pub argument_in : Option ℕ → VirtualRegister → OperandValue
argument_in (Some r) v = passed_in r v
argument_in None v = passed_on_stack v

-- the arguments of a call, given the registers left for them
unfoldable pub arguments_in : List ℕ → List VirtualRegister → List OperandValue
arguments_in rs [] = []
arguments_in [] (v ∷ vs) = passed_on_stack v ∷ arguments_in [] vs
arguments_in (r ∷ rs) (v ∷ vs) = passed_in r v ∷ arguments_in rs vs

-- a call returns its number in register 0
abbrev pub call_operands : VirtualRegister → List VirtualRegister → List OperandValue
call_operands to arguments = def_in (FixedReg (record { number = 0; class = to.class })) to ∷ arguments_in argument_registers arguments

abbrev pub operands_of : Operation → List OperandValue
operands_of (Argument to k) = def_in Reg to ∷ []
operands_of (Constant to n) = def_in Reg to ∷ []
operands_of (Copy to from) = def_in Reg to ∷ use_in Any from ∷ []
operands_of (Compute w o to left right) = def_in (Reuse 1) to ∷ use_in Reg left ∷ right_in right
operands_of (Shift w o to left count) = def_in (Reuse 1) to ∷ use_in Reg left ∷ count_in count
operands_of (Divide w part signed to left right) = divide_operands part to left right
operands_of (Compare w c to left right) = def_in Reg to ∷ use_in Reg left ∷ right_in right
operands_of (Select to c one other) = def_in (Reuse 1) to ∷ use_in Reg one ∷ use_in Any other ∷ use_in Any c ∷ []
operands_of (Load bytes to address) = def_in Reg to ∷ use_in Reg address ∷ []
operands_of (Store bytes address value) = use_in Reg address ∷ use_in Reg value ∷ []
operands_of (Call g to arguments) = call_operands to arguments.items
operands_of Jump = []
operands_of (BranchIf v) = use_in Any v ∷ []
operands_of (BranchIfHolds w c left right) = use_in Reg left ∷ right_in right
operands_of (Return v) = use_in Any v ∷ []

-- the registers that a call clobbers, besides that of its result: the caller-saved ones
abbrev pub is_lost_in_call : Register → Bool
is_lost_in_call r = is_at 1 || (is_at 2 || (is_at 6 || (is_at 7 || (is_at 8 || (is_at 9 || (is_at 10 || is_at 11))))))
  where
    is_at : ℕ → Bool
    is_at n = is_register (record { number = n; class = Int }) r

-- the clobbers of an operation, besides its definitions: a division clobbers the register of its other result
abbrev pub is_lost_in : Operation → Register → Bool
is_lost_in (Divide w part signed to left right) r = is_register (record { number = other_register part; class = Int }) r
is_lost_in (Call g to arguments) r = is_lost_in_call r
is_lost_in o r = false

-- the operations that jump to a successor
abbrev pub is_jump : Operation → Bool
is_jump Jump = true
is_jump (BranchIf v) = true
is_jump (BranchIfHolds w c left right) = true
is_jump o = false

-- the operation that returns
abbrev pub is_return : Operation → Bool
is_return (Return v) = true
is_return o = false
