-- Whether lines and blocks are a function: blocks have the successors that their last lines require, and lines contain virtual registers and numbers within
-- bounds.
use Rattle.std.specs.Prelude.{ℕ, ◌≡◌, ◌-◌, ◌^◌, ◌<◌, ◌⊎◌, Bool, true, false, nat_le, nat_lt, List, map, length, slice_get, Option, None, Some}
use Rattle.std.specs.List.{list_all}
use Rattle.codegen_operation.specs.declared.operation.Operation.{Operation}
use Rattle.codegen_operation.specs.declared.operation.Operation.TheVariants.{Compute, Compare, Jump, BranchIf, BranchIfHolds}
use Rattle.codegen_operation.specs.declared.operation.Right.{Right}
use Rattle.codegen_operation.specs.declared.operation.Right.TheVariants.{VReg, Number}
use Rattle.codegen_operation.specs.Operands.{operands_of}
use Rattle.codegen_operation.specs.declared.line.Line.{Line}
use Rattle.codegen_machine.specs.declared.procedure.Part.{Part}
use Rattle.codegen_machine.specs.declared.procedure.Malformed.{Malformed}
use Rattle.codegen_machine.specs.declared.procedure.Malformed.TheVariants.{TooLarge, MissingSuccessor, UnknownRegister, LargeNumber, LargeMemory}

-- the number of successors that an operation requires
abbrev pub wanted_by : Operation → ℕ
wanted_by Jump = 1
wanted_by (BranchIf v) = 2
wanted_by (BranchIfHolds w c left right) = 2
wanted_by o = 0

abbrev pub operations_of : List Line → List Operation
operations_of lines = map (λ l. l.operation) lines

-- there are at least as many as the operation requires, if there is an operation
abbrev pub are_enough : ℕ → Option Operation → Bool
are_enough count None = true
are_enough count (Some o) = nat_le (wanted_by o) count

-- a block has at least as many successors as its last line requires
abbrev pub has_successors : List Operation → Part → Bool
has_successors operations p = are_enough (length p.succs.items) (slice_get operations (p.range.end - 1))

-- the vregs of a line have numbers below a bound
abbrev pub knows_registers : ℕ → Line → Bool
knows_registers vregs l = list_all (λ o. nat_lt o.vreg.number vregs) (operands_of l.operation)

-- a second number is below 2^31, if it is a constant
abbrev pub is_small : Right → Bool
is_small (VReg v) = true
is_small (Number n) = nat_lt n (2 ^ 31)

abbrev pub has_small_number : Line → Bool
has_small_number l = right_is_small l.operation
  where
    right_is_small : Operation → Bool
    right_is_small (Compute w o to left right) = is_small right
    right_is_small (Compare w c to left right) = is_small right
    right_is_small (BranchIfHolds w c left right) = is_small right
    right_is_small o = true

-- why blocks and lines are rejected; a size of memory is rejected later
abbrev pub IsMalformed : List Part → List Line → ℕ → Malformed → Type 0
IsMalformed parts lines vregs TooLarge = (1000000 < length parts) ⊎ (1000000 < length lines) ⊎ (1000000 < vregs)
IsMalformed parts lines vregs MissingSuccessor = list_all (has_successors (operations_of lines)) parts ≡ false
IsMalformed parts lines vregs UnknownRegister = list_all (knows_registers vregs) lines ≡ false
IsMalformed parts lines vregs LargeNumber = list_all has_small_number lines ≡ false
IsMalformed parts lines vregs LargeMemory = ⊥
