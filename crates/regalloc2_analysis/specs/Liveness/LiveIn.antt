-- What has to be written before an instruction is reached.
use Rattle.std.specs.Prelude.{ℕ, ◌≡◌, ◌<◌, ◌≤◌, ◌⊎◌, true, List, length, Contains}
use Rattle.regalloc2_names.specs.declared.OperandPos.{OperandPos}
use Rattle.regalloc2_names.specs.declared.OperandPos.TheVariants.{Early, Late}
use Rattle.regalloc2_names.specs.Register.{VirtualRegister}
use Rattle.regalloc2_names.specs.Operand.{OperandValue, is_reading}
use Rattle.regalloc2_function.specs.FunctionValue.{FunctionValue, block_at, inst_at, op_at}
use Rattle.regalloc2_semantics.specs.Runs.{Way, ToSuccessor, Location, next_of, first_of, HasWay, arguments_at}
use Rattle.regalloc2_semantics.specs.Sound.{Undefined, IsAside}

-- an operand reads v at a position
abbrev pub IsReadAt : OperandPos → VirtualRegister → List OperandValue → Type 0
IsReadAt pos v ops = (j : ℕ) × (j < length ops) × (is_reading (op_at ops j) ≡ true) × ((op_at ops j).position ≡ pos) × ((op_at ops j).vreg ≡ v)

-- an instruction reads what v had before: early, or late where it doesn't define v
abbrev pub IsRead : VirtualRegister → List OperandValue → Type 0
IsRead v ops = IsReadAt Early v ops ⊎ (Undefined ops v × IsReadAt Late v ops)

-- an edge from there passes v as an argument
abbrev pub IsPassed : FunctionValue → VirtualRegister → Location → Type 0
IsPassed f v l = (k : ℕ) × HasWay f l (ToSuccessor k) × Contains (arguments_at f l.block k) v

-- v is needed at an instruction: it is read or passed there or on some path from there, and nothing writes it before
pub data IsNeeded (f : FunctionValue) (v : VirtualRegister) : Location → Type 0 where
  read : (l : Location) → IsRead v (inst_at f l.inst).operands → IsNeeded f v l
  passed_on : (l : Location) → Undefined (inst_at f l.inst).operands v → IsPassed f v l → IsNeeded f v l
  later : (l : Location) (w : Way) → HasWay f l w → Undefined (inst_at f l.inst).operands v → IsAside f v l w → IsNeeded f v (next_of f l w) → IsNeeded f v l

-- nothing is needed at the entry
abbrev pub NeedsNothing : FunctionValue → Type 0
NeedsNothing f = (v : VirtualRegister) → IsNeeded f v (first_of f f.entry) → ⊥

-- none of a block's instructions before one writes v
abbrev pub IsUnwrittenTo : FunctionValue → ℕ → ℕ → VirtualRegister → Type 0
IsUnwrittenTo f b i v = (j : ℕ) → (block_at f b).range.first ≤ j → j < i → Undefined (inst_at f j).operands v
