-- What the branches of a function define, and where that is stored: at the beginnings of the blocks that they lead to.
use Rattle.std.specs.Prelude.{ℕ, ◌≡◌, ◌<◌, true, List, length, slice_index, if◌then◌else◌, Contains, ◌↔◌, Option, None, Some, IsSome}
use Rattle.regalloc2_names.specs.Register.{Register, VirtualRegister}
use Rattle.regalloc2_names.specs.Operand.{OperandValue, is_def, fixed_register}
use Rattle.regalloc2_function.specs.FunctionValue.{FunctionValue, block_at, inst_at, op_at, last_of}
use Rattle.regalloc2_function.specs.Machine.{MachineValue}
use Rattle.regalloc2_semantics.specs.Debug.{UsesAt}
use Rattle.regalloc2_function.specs.WellFormed.{IsWellFormed}
use Rattle.regalloc2_semantics.specs.Sound.{HasEdge, target_at}

-- the operand of an index defines the number n
pub record DefinesNumber (operands : List OperandValue) (n k : ℕ) : Type 0 where
  pub operand : k < length operands
  pub definition : is_def (op_at operands k).kind ≡ true
  pub number : (op_at operands k).vreg.number ≡ n

-- a block ends in a branch with a definition
abbrev pub EndsInDefinitions : FunctionValue → ℕ → Type 0
EndsInDefinitions f b = ((inst_at f (last_of (block_at f b))).is_branch ≡ true)
    × ((n k : ℕ) × DefinesNumber (inst_at f (last_of (block_at f b))).operands n k)

-- the block b is entered by the edge at a position out of a block that ends in a branch with a definition
pub record IsEdgeInto (f : FunctionValue) (b from position : ℕ) : Type 0 where
  pub block : from < length f.blocks
  pub edge : HasEdge f from position
  pub target : target_at f from position ≡ b
  pub definitions : EndsInDefinitions f from

-- the operand of a branch by which the number n is defined
pub record IsSite (f : FunctionValue) (n branch index : ℕ) : Type 0 where
  pub inst : branch < length f.insts
  pub is_branch : (inst_at f branch).is_branch ≡ true
  pub defines : DefinesNumber (inst_at f branch).operands n index

-- an instruction reads v, or passes it and doesn't define it
abbrev pub IsUsedElsewhere : FunctionValue → VirtualRegister → Type 0
IsUsedElsewhere f v = (i : ℕ) × UsesAt f v i

-- the register to which a definition is fixed
abbrev pub fixed_definition : OperandValue → Option Register
fixed_definition o = if is_def o.kind then fixed_register o.constraint else None

-- a definition among operands is fixed to a register
abbrev pub IsHeld : List OperandValue → Register → Type 0
IsHeld operands r = (k : ℕ) × (k < length operands) × (fixed_definition (op_at operands k) ≡ Some r)

-- the operand of an index is a fixed definition of what is used elsewhere
pub record IsStoredOperand (f : FunctionValue) (operands : List OperandValue) (k : ℕ) : Type 0 where
  pub operand : k < length operands
  pub fixed : IsSome (fixed_definition (op_at operands k))
  pub used : IsUsedElsewhere f (op_at operands k).vreg

-- the indexes of the operands that are stored, rising
pub record AreStoredOperands (f : FunctionValue) (operands : List OperandValue) (ks : List ℕ) : Type 0 where
  pub rising : (i j : ℕ) → i < j → j < length ks → slice_index ks i < slice_index ks j
  pub members : (k : ℕ) → Contains ks k ↔ IsStoredOperand f operands k

-- some block ends in a branch with a definition
abbrev pub HasDefinitions : FunctionValue → Type 0
HasDefinitions f = (b : ℕ) × (b < length f.blocks) × EndsInDefinitions f b

-- a function that is well-formed for some machine
abbrev pub MayHaveTables : FunctionValue → Type 0
MayHaveTables f = (env : MachineValue) × IsWellFormed env f
