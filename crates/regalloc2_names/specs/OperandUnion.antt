-- The union of several operands' encodings, which this project adds to upstream's operands.
use Rattle.std.specs.Prelude.{ℕ, ◌≡◌, List, [], ◌∷◌, All}
use Rattle.std.specs.Int.Bits.{bit_or}
use Rattle.regalloc2_names.specs.declared.unions.OperandUnion.{OperandUnion}
use Rattle.regalloc2_names.specs.Operand.{OperandValue}
use Rattle.regalloc2_names.specs.Packing.{IsOperand, bits_of_operand}

-- the bits that are set in any of the operands' encodings
unfoldable pub union_bits : List OperandValue → ℕ
union_bits [] = 0
union_bits (o ∷ rest) = bit_or (union_bits rest) (bits_of_operand o)

-- a union of the encodings of operands
pub record IsUnionOf (operands : List OperandValue) (union : OperandUnion) : Type 0 where
  pub are_operands : All IsOperand operands
  pub bits : union.bits ≡ union_bits operands
