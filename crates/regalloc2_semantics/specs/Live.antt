-- The instructions that define, read or pass a vreg, and the vregs that are live where a path comes to an
-- instruction.
use Rattle.std.specs.Prelude.{ℕ, ◌<◌, ◌⊎◌, length, slice_index, ◌≡◌, true, Contains}
use Rattle.regalloc2_names.specs.declared.OperandPos.{OperandPos}
use Rattle.regalloc2_names.specs.Register.{VirtualRegister}
use Rattle.regalloc2_names.specs.Operand.{is_def, is_reading}
use Rattle.regalloc2_function.specs.FunctionValue.{FunctionValue, block_at, inst_at, op_at}
use Rattle.regalloc2_semantics.specs.Runs.{Way, Onward, ToSuccessor, Location, next_of, HasWay, arguments_at}

-- the operand k of the instruction i names v
abbrev pub NamesAt : FunctionValue → VirtualRegister → ℕ → ℕ → Type 0
NamesAt f v i k = (i < length f.insts) × (k < length (inst_at f i).operands) × ((op_at (inst_at f i).operands k).vreg ≡ v)

-- an operand of the instruction i defines v
abbrev pub DefinesAt : FunctionValue → VirtualRegister → ℕ → Type 0
DefinesAt f v i = (k : ℕ) × NamesAt f v i k × (is_def (op_at (inst_at f i).operands k).kind ≡ true)

-- an operand of the instruction i reads v at the position
abbrev pub ReadsAt : FunctionValue → VirtualRegister → OperandPos → ℕ → Type 0
ReadsAt f v position i = (k : ℕ) × NamesAt f v i k × (is_reading (op_at (inst_at f i).operands k) ≡ true)
    × ((op_at (inst_at f i).operands k).position ≡ position)

-- an edge out of the location passes v, and the instruction there doesn't define v
abbrev pub PassesAt : FunctionValue → VirtualRegister → Location → Type 0
PassesAt f v l = (k : ℕ) × HasWay f l (ToSuccessor k) × Contains (arguments_at f l.block k) v × (DefinesAt f v l.inst → ⊥)

-- v gets a value at the location: the instruction there defines it, or it is a parameter of the block that the edge leads to
abbrev pub IsGiven : FunctionValue → VirtualRegister → Location → Way → Type 0
IsGiven f v l w = DefinesAt f v l.inst ⊎ IsParameter w
  where
    IsParameter : Way → Type 0
    IsParameter Onward = ⊥
    IsParameter (ToSuccessor k) = Contains (block_at f (slice_index (block_at f l.block).succs k)).params v

-- v is live before an instruction: it is read there, or read or passed on some path from there before it is given a value (if no instruction reads what it
-- writes, as in well-formed functions)
pub data IsLive (f : FunctionValue) (v : VirtualRegister) : Location → Type 0 where
  read_there : (l : Location) (position : OperandPos) → ReadsAt f v position l.inst → IsLive f v l
  passed_there : (l : Location) → PassesAt f v l → IsLive f v l
  later : (l : Location) (w : Way) → HasWay f l w → (IsGiven f v l w → ⊥) → IsLive f v (next_of f l w) → IsLive f v l
