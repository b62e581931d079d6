-- The emitted code: one to three instructions for each item of a block's listing, and for a call one or two more for each argument past the sixth, block after
-- block. Jumps name blocks at first, and then the blocks' first instructions.
use Rattle.std.specs.Prelude.{ℕ, zero, suc, ◌+◌, ◌-◌, max, Bool, true, false, nat_lt, nat_eq, if◌then◌else◌}
use Rattle.std.specs.Prelude.{List, [], ◌∷◌, ◌++◌, map, length, slice_index, slice_index_or}
use Rattle.regalloc2_names.specs.Place.{Place}
use Rattle.regalloc2_function.specs.FunctionValue.{FunctionValue, block_at}
use Rattle.regalloc2_function.specs.OutputValue.{OutputValue, allocs_of, place_at}
use Rattle.regalloc2_function.specs.Listing.{Listed, ListedInst, ListedMove, block_listing}
use Rattle.codegen_operation.specs.declared.operation.Operation.{Operation}
use Rattle.codegen_operation.specs.declared.operation.Operation.TheVariants.{Argument as TakeArgument, Constant as TakeConstant, Copy, Compute as Computation}
use Rattle.codegen_operation.specs.declared.operation.Operation.TheVariants.{Shift as Shifting, Divide as Dividing, Compare as Comparison, Select, Jump as GoTo, BranchIf}
use Rattle.codegen_operation.specs.declared.operation.Operation.TheVariants.{BranchIfHolds, Load as Loading, Store as Storing, Call as Calling}
use Rattle.codegen_operation.specs.declared.operation.Operation.TheVariants.{Return as GiveBack}
use Rattle.codegen_operation.specs.Numbers.{count_of}
use Rattle.codegen_machine.specs.Seen.{Operations}
use Rattle.codegen_operation.specs.declared.operation.Bytes.{Bytes}
use Rattle.codegen_operation.specs.declared.operation.Width.{Width}
use Rattle.codegen_operation.specs.declared.operation.ShiftOperator.{ShiftOperator}
use Rattle.codegen_operation.specs.declared.operation.Condition.{Condition}
use Rattle.codegen_operation.specs.declared.operation.Condition.TheVariants.{Equal, NotEqual, Less, LessOrEqual, Greater, GreaterOrEqual}
use Rattle.codegen_operation.specs.declared.operation.Condition.TheVariants.{SignedLess, SignedLessOrEqual, SignedGreater, SignedGreaterOrEqual}
use Rattle.codegen_operation.specs.declared.operation.Count.{Count}
use Rattle.codegen_operation.specs.declared.operation.Count.TheVariants.{VReg as CountIn, Number as CountOf}
use Rattle.codegen_operation.specs.declared.operation.Right.{Right}
use Rattle.codegen_operation.specs.declared.operation.Right.TheVariants.{VReg, Number as Given}
use Rattle.codegen_machine.specs.declared.Source.{Source}
use Rattle.codegen_machine.specs.declared.Source.TheVariants.{Number}
use Rattle.codegen_machine.specs.declared.Instruction.{Instruction}
use Rattle.codegen_machine.specs.declared.Instruction.TheVariants.{Constant, Clear, Argument, Move, Load, Store, Compute}
use Rattle.codegen_machine.specs.declared.Instruction.TheVariants.{Shift, ShiftBy, ExtendSign, Divide, Compare, Set, MoveIf, Test, Jump}
use Rattle.codegen_machine.specs.declared.Instruction.TheVariants.{JumpIf, Call, Pass, Return, Guard, Read, Write}
use Rattle.codegen_machine.specs.Machine.{CodeValue}
use Rattle.codegen_emit.specs.declared.placement.MachinePlace.{MachinePlace}
use Rattle.codegen_emit.specs.declared.placement.MachinePlace.TheVariants.{Register as AtRegister, Slot as AtSlot}
use Rattle.codegen_emit.specs.Pinned.{machine_place, register_at, source_at, frame_slots}

-- the register of a place
abbrev pub register_of : Place → ℕ
register_of p = register_at (machine_place p)

-- a place to read from
abbrev pub source_of : Place → Source
source_of p = source_at (machine_place p)

-- a second number: its operand's place, unless it is a constant
abbrev pub right_source : Right → Place → Source
right_source (VReg v) p = source_of p
right_source (Given n) p = Number n

-- copies the number in a place into a register
abbrev pub fetched_from : ℕ → MachinePlace → Instruction
fetched_from to (AtRegister r) = Move to r
fetched_from to (AtSlot k) = Load to k

abbrev pub fetched : ℕ → Place → Instruction
fetched to p = fetched_from to (machine_place p)

-- a move from a place to a place
abbrev pub moved_to : MachinePlace → MachinePlace → Instruction
moved_to from (AtRegister r) = fetched_from r from
moved_to from (AtSlot k) = Store k (register_at from)

abbrev pub move_code : Place → Place → Instruction
move_code from to = moved_to (machine_place from) (machine_place to)

-- loads a constant; 0 has a shorter instruction
abbrev pub constant_code : ℕ → ℕ → Instruction
constant_code to n = if nat_eq n 0 then Clear to else Constant to n

-- the condition that holds exactly if another doesn't
abbrev pub opposite : Condition → Condition
opposite Equal = NotEqual
opposite NotEqual = Equal
opposite Less = GreaterOrEqual
opposite LessOrEqual = Greater
opposite Greater = LessOrEqual
opposite GreaterOrEqual = Less
opposite SignedLess = SignedGreaterOrEqual
opposite SignedLessOrEqual = SignedGreater
opposite SignedGreater = SignedLessOrEqual
opposite SignedGreaterOrEqual = SignedLess

-- A branch to the first successor if the numbers last compared meet a condition, else to the second. If the first is the block that is emitted next,
-- its jump comes last: to the next line, which the text omits.
abbrev pub branch_code : Condition → List ℕ → ℕ → List Instruction
branch_code c succs next =
    if nat_eq (slice_index succs 0) next then JumpIf (opposite c) (slice_index succs 1) ∷ Jump (slice_index succs 0) ∷ []
    else JumpIf c (slice_index succs 0) ∷ Jump (slice_index succs 1) ∷ []

-- a branch to the first successor if a place's number isn't 0, else to the second
abbrev pub branch_if_code : Place → List ℕ → ℕ → List Instruction
branch_if_code p succs next = Test (source_of p) ∷ branch_code NotEqual succs next

-- a branch to the first successor if two numbers meet a condition, else to the second
abbrev pub branch_if_holds_code : Width → Condition → Right → List Place → List ℕ → ℕ → List Instruction
branch_if_holds_code w c right places succs next =
    Compare w (register_of (place_at places 0)) (right_source right (place_at places 1)) ∷ branch_code c succs next

-- a shift, by the count in register 1 or by a constant
abbrev pub shift_code : Width → ShiftOperator → Count → ℕ → Instruction
shift_code w o (CountIn v) r = Shift w o r
shift_code w o (CountOf n) r = ShiftBy w o r n

-- Extends register 0 into register 2; then divides by a place's number.
abbrev pub extension_code : Width → Bool → Instruction
extension_code w true = ExtendSign w
extension_code w false = Clear 2

abbrev pub divide_code : Width → Bool → Place → List Instruction
divide_code w signed p = extension_code w signed ∷ Divide w signed (source_of p) ∷ []

-- a comparison, whose result is written to a register
abbrev pub compare_code : Width → Condition → Right → List Place → List Instruction
compare_code w c right places =
    Compare w (register_of (place_at places 1)) (right_source right (place_at places 2)) ∷ Set (register_of (place_at places 0)) c ∷ []

-- a selection: the register holds the first number, and receives the second if the deciding number is 0
abbrev pub select_code : List Place → List Instruction
select_code places = Test (source_of (place_at places 3)) ∷ MoveIf Equal (register_of (place_at places 0)) (source_of (place_at places 2)) ∷ []

-- how many addresses an access has in a memory of that size
abbrev pub address_count : ℕ → Bytes → ℕ
address_count size bytes = size + 1 - count_of bytes

-- Traps unless the address is one of them; then reads a number from memory, or writes one.
abbrev pub load_code : ℕ → Bytes → List Place → List Instruction
load_code size bytes places = Guard (register_of (place_at places 1)) (address_count size bytes)
    ∷ Read bytes (register_of (place_at places 0)) (register_of (place_at places 1)) ∷ []

abbrev pub store_code : ℕ → Bytes → List Place → List Instruction
store_code size bytes places = Guard (register_of (place_at places 0)) (address_count size bytes)
    ∷ Write bytes (register_of (place_at places 0)) (register_of (place_at places 1)) ∷ []

-- Passes an argument on the stack: copies a place's number into an outgoing word. A number in a slot is copied by way of register 0, which holds none of the
-- arguments that are still to be read: their uses are late, and the call's result is written to it.
abbrev pub passed_from : ℕ → MachinePlace → List Instruction
passed_from k (AtRegister r) = Pass k r ∷ []
passed_from k (AtSlot j) = Load 0 j ∷ Pass k 0 ∷ []

abbrev pub pass_code : ℕ → Place → List Instruction
pass_code k p = passed_from k (machine_place p)

-- passes a call's first arguments on the stack, as many as the number says; its first operands are its result and six arguments in registers
unfoldable pub passes_code : ℕ → List Place → List Instruction
passes_code zero places = []
passes_code (suc n) places = passes_code n places ++ pass_code n (place_at places (n + 7))

-- a call with `count` arguments
abbrev pub call_code : ℕ → ℕ → List Place → List Instruction
call_code g count places = passes_code (count - 6) places ++ Call g ∷ []

-- the return of a place's number, in register 0
abbrev pub return_code : Place → List Instruction
return_code p = fetched 0 p ∷ Return ∷ []

-- the instructions of an operation, with a memory of that size and its operands' places, in a block with these successors before a block with that number;
-- jumps name blocks
abbrev pub operation_code : ℕ → Operation → List Place → List ℕ → ℕ → List Instruction
operation_code size (TakeArgument to k) places succs next = Argument (register_of (place_at places 0)) k ∷ []
operation_code size (TakeConstant to n) places succs next = constant_code (register_of (place_at places 0)) n ∷ []
operation_code size (Copy to from) places succs next = fetched (register_of (place_at places 0)) (place_at places 1) ∷ []
operation_code size (Computation w o to left right) places succs next =
    Compute w o (register_of (place_at places 0)) (right_source right (place_at places 2)) ∷ []
operation_code size (Shifting w o to left count) places succs next = shift_code w o count (register_of (place_at places 0)) ∷ []
operation_code size (Dividing w part signed to left right) places succs next = divide_code w signed (place_at places 2)
operation_code size (Comparison w c to left right) places succs next = compare_code w c right places
operation_code size (Select to c one other) places succs next = select_code places
operation_code size (Loading bytes to address) places succs next = load_code size bytes places
operation_code size (Storing bytes address value) places succs next = store_code size bytes places
operation_code size (Calling g to arguments) places succs next = call_code g (length arguments.items) places
operation_code size GoTo places succs next = Jump (slice_index succs 0) ∷ []
operation_code size (BranchIf v) places succs next = branch_if_code (place_at places 0) succs next
operation_code size (BranchIfHolds w c left right) places succs next = branch_if_holds_code w c right places succs next
operation_code size (GiveBack v) places succs next = return_code (place_at places 0)

-- jumps resolved to the blocks' first instructions
abbrev pub resolved : (ℕ → ℕ) → Instruction → Instruction
resolved start (Jump b) = Jump (start b)
resolved start (JumpIf c b) = JumpIf c (start b)
resolved start i = i

-- the operation with that number; past the last one, a jump
abbrev pub operation_at : Operations → ℕ → Operation
operation_at operations i = slice_index_or operations.items i GoTo

module _ (operations : Operations) (out : OutputValue) where
  -- an item of the listing of a block with these successors, before a block with that number
  abbrev pub item_code : List ℕ → ℕ → Listed → List Instruction
  item_code succs next (ListedInst i) = operation_code operations.memory_size (operation_at operations i) (allocs_of out i) succs next
  item_code succs next (ListedMove m) = move_code m.from m.to ∷ []

  unfoldable pub items_code : List ℕ → ℕ → List Listed → List Instruction
  items_code succs next [] = []
  items_code succs next (x ∷ xs) = item_code succs next x ++ items_code succs next xs

  abbrev pub block_code : FunctionValue → ℕ → List Instruction
  block_code f b = items_code (block_at f b).succs (b + 1) (block_listing f out b)

  -- a number of blocks, from the first on
  unfoldable pub blocks_code : FunctionValue → ℕ → List Instruction
  blocks_code f zero = []
  blocks_code f (suc n) = blocks_code f n ++ block_code f n

  -- the first instruction of a block
  abbrev pub block_start : FunctionValue → ℕ → ℕ
  block_start f b = length (blocks_code f b)

  -- the target of a jump to a block
  abbrev pub block_label : FunctionValue → ℕ → ℕ
  block_label f b = if nat_lt b (length f.blocks) then block_start f b else 0

-- the number of arguments that an operation passes on the stack, and the most of any operation
abbrev pub stack_arguments : Operation → ℕ
stack_arguments (Calling g to arguments) = length arguments.items - 6
stack_arguments o = 0

unfoldable pub outgoing_words : List Operation → ℕ
outgoing_words [] = 0
outgoing_words (o ∷ os) = max (stack_arguments o) (outgoing_words os)

-- The code of an allocated function: its blocks, with jumps resolved, and a frame of the slots that aren't registers and of the words for the arguments
-- of its calls.
abbrev pub emitted : Operations → FunctionValue → OutputValue → CodeValue
emitted operations f out = record {
  instructions = map (resolved (block_label operations out f)) (blocks_code operations out f (length f.blocks));
  slots = frame_slots out.num_spillslots;
  outgoing = outgoing_words operations.items;
}
