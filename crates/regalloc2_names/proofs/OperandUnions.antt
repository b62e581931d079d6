-- What the union of operands' encodings tells of them.
use Rattle.std.proofs.Common.{ℕ, ◌≡◌, ◌/◌, ◌%◌, ◌^◌, ◌||◌, false, List, [], ◌∷◌, refl, sym, arith, ◌∙◌, inl, inr}
use Rattle.std.specs.Prelude.{All, nat_le}
use Rattle.std.specs.Int.{bit_at}
use Rattle.std.specs.Int.Bits.{bit_or}
use Rattle.std.specs.List.{list_any}
use Rattle.std.proofs.lemmas.Bool.{cases_lt}
use Rattle.std.proofs.lemmas.Bool.Decides.{nat_tests}
use Rattle.std.proofs.lemmas.List.Elements.{All-head, All-tail}
use Rattle.std.proofs.lemmas.Nat.{le_or_l, le_or_r, or_lt, or_shr}
use Rattle.std.proofs.lemmas.Nat.Bits.{bit_at_or}
use Rattle.regalloc2_names.specs.declared.OperandConstraint.{OperandConstraint}
use Rattle.regalloc2_names.specs.declared.OperandConstraint.TheVariants.{Any, Reg, Stack, FixedReg, Reuse, Limit}
use Rattle.regalloc2_names.specs.declared.RegClass.{RegClass}
use Rattle.regalloc2_names.specs.Operand.{OperandValue, is_fixed, is_fixed_operand, is_limit, is_limited_operand}
use Rattle.regalloc2_names.specs.Packing.{IsConstraintOf, IsOperand, bits_of_operand, constraint_code, kind_code-lt, limit_code-lt, position_code-lt}
use Rattle.regalloc2_names.specs.OperandUnion.{union_bits}
use Rattle.regalloc2_names.proofs.Bits.{class_code-lt}

-- a union reaches 64 exactly if one of the two does
high_union : (a b : ℕ) → nat_le 64 (bit_or a b) ≡ (nat_le 64 b || nat_le 64 a)
high_union a b = elim (cases_lt a 64) [
  | inr x ↦ grind (arith, nat_tests, le_or_l a b)
  | inl x ↦ elim (cases_lt b 64) [ inr y ↦ grind (arith, nat_tests, le_or_r a b) | inl y ↦ grind (arith, nat_tests, or_lt 6 a b x y) ]
]

-- the codes from 64 on are those of fixed registers
high_code : (class : RegClass) (k : OperandConstraint) → IsConstraintOf class k → nat_le 64 (constraint_code k) ≡ is_fixed k
high_code class Any h = refl
high_code class Reg h = refl
high_code class Stack h = refl
high_code class (Limit n) h = grind (arith, nat_tests, limit_code-lt n)
high_code class (Reuse n) h = grind (arith, nat_tests)
high_code class (FixedReg r) h = grind (arith, nat_tests)

-- the constraint's code in an operand's encoding
code_of_bits : (o : OperandValue) → IsOperand o → bits_of_operand o / 2 ^ 36 ≡ constraint_code o.constraint
unfolding bits_of_operand
code_of_bits o h = omega (arith, class_code-lt o.vreg.class, position_code-lt o.position, kind_code-lt o.kind, h.0)

-- the union of the constraints' codes reaches 64 exactly if any of the operands is fixed to a register
pub fixed_in_union : (operands : List OperandValue) → All IsOperand operands → nat_le 64 (union_bits operands / 2 ^ 36) ≡ list_any is_fixed_operand operands
unfolding union_bits
fixed_in_union [] h = refl
fixed_in_union (o ∷ rest) h =
    let own : IsOperand o = All-head IsOperand o rest h in
    let others : All IsOperand rest = All-tail IsOperand o rest h in
    rw (
      or_shr (union_bits rest) (bits_of_operand o) 36,
      code_of_bits o own,
      high_union (union_bits rest / 2 ^ 36) (constraint_code o.constraint),
      high_code o.vreg.class o.constraint own.1,
      fixed_in_union rest others,
    ) refl

-- the bit of the limits' codes is set in the encoding of an operand that has a limit
limit_bit : (o : OperandValue) → IsOperand o → bit_at (bits_of_operand o) 40 ≡ 0 → is_limited_operand o ≡ false
limit_bit o own none = other_code o.constraint own.1 (omega (arith, none, code_of_bits o own))
  where
    other_code : (k : OperandConstraint) → IsConstraintOf o.vreg.class k → constraint_code k / 16 % 2 ≡ 0 → is_limit k ≡ false
    other_code Any h z = refl
    other_code Reg h z = refl
    other_code Stack h z = refl
    other_code (Limit n) h z = absurd (omega (arith, z, limit_code-lt n))
    other_code (Reuse n) h z = refl
    other_code (FixedReg r) h z = refl

-- no operand has a limit if that bit is clear in the union
pub unlimited_union : (operands : List OperandValue) → All IsOperand operands → bit_at (union_bits operands) 40 ≡ 0 →
    list_any is_limited_operand operands ≡ false
unfolding union_bits
unlimited_union [] h none = refl
unlimited_union (o ∷ rest) h none =
    let both = sym (bit_at_or (union_bits rest) (bits_of_operand o) 40) ∙ none in
    rw (
      limit_bit o (All-head IsOperand o rest h) (omega (arith, both)),
      unlimited_union rest (All-tail IsOperand o rest h) (omega (arith, both)),
    ) refl
