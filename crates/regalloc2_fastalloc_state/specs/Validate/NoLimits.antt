-- What the walk takes: operands without limits.
use Rattle.std.specs.Prelude.{ℕ, ◌≡◌, ◌<◌, All, length}
use Rattle.regalloc2_names.specs.declared.OperandConstraint.TheVariants.{Limit}
use Rattle.regalloc2_names.specs.Operand.{OperandValue}
use Rattle.regalloc2_names.specs.Packing.{IsConstraintOf}
use Rattle.regalloc2_function.specs.FunctionValue.{FunctionValue, inst_at}

-- an operand that the walk takes: any but one with a limit; a register that it names is of its class
pub record IsTakenOperand (o : OperandValue) : Type 0 where
  pub of_class : IsConstraintOf o.vreg.class o.constraint
  pub unlimited : (n : ℕ) → o.constraint ≡ Limit n → ⊥

-- each operand of each instruction
abbrev pub AreTaken : FunctionValue → Type 0
AreTaken f = (i : ℕ) → i < length f.insts → All IsTakenOperand (inst_at f i).operands
