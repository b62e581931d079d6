-- Words whose bits say which operands of an instruction are selected.
use Rattle.std.specs.Prelude.{ℕ, ◌≡◌, ◌<◌, ◌^◌, Bool, List, length, filter, nat_eq}
use Rattle.std.specs.Int.{bit_at}
use Rattle.std.specs.List.{enumerate_from}
use Rattle.regalloc2_names.specs.Operand.{OperandValue}
use Rattle.regalloc2_function.specs.FunctionValue.{op_at}
use Rattle.regalloc2_parts.specs.Picked.{is_late_operand, is_use_operand}
use Rattle.regalloc2_fastalloc_state.specs.declared.masks.Masks.{Masks}

-- the greatest number of operands that have masks: one less than the bits of a word
abbrev pub max_masked : ℕ
max_masked = 63

-- bit k of a word is 1 exactly if the operand k passes a test
pub record IsMask (test : OperandValue → Bool) (operands : List OperandValue) (mask : ℕ) : Type 0 where
  pub bits : (k : ℕ) → k < length operands → nat_eq (bit_at mask k) 1 ≡ test (op_at operands k)
  pub below : mask < 2 ^ length operands

-- which operands are late, and which are uses
pub record AreMasks (operands : List OperandValue) (masks : Masks) : Type 0 where
  pub late : IsMask is_late_operand operands masks.late
  pub uses : IsMask is_use_operand operands masks.uses

-- the operands at the bits of a word that are 1, each with its index, in order
abbrev pub selected : ℕ → List OperandValue → List (ℕ × OperandValue)
selected mask operands = filter (λ x. nat_eq (bit_at mask x.0) 1) (enumerate_from 0 operands)
