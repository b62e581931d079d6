-- Proofs that two operands are equal are unique, so a type may hold them.
use Rattle.std.specs.Prelude.{ℕ, ◌≡◌, zero, suc, List, refl}
use Rattle.std.specs.Coded.{Coded, Coded-set, coded_ℕ, coded_list, coded×, code_by}
use Rattle.regalloc2_names.specs.Register.{VirtualRegister, class_code, class_of_code}
use Rattle.regalloc2_names.specs.Operand.{OperandValue}
use Rattle.regalloc2_names.specs.declared.RegClass.{RegClass}
use Rattle.regalloc2_names.specs.declared.RegClass.TheVariants.{Int, Float, Vector}
use Rattle.regalloc2_names.specs.declared.OperandConstraint.{OperandConstraint}
use Rattle.regalloc2_names.specs.declared.OperandConstraint.TheVariants.{Any, Reg, Stack, FixedReg, Reuse, Limit}
use Rattle.regalloc2_names.specs.declared.OperandKind.{OperandKind}
use Rattle.regalloc2_names.specs.declared.OperandKind.TheVariants.{Def, Use}
use Rattle.regalloc2_names.specs.declared.OperandPos.{OperandPos}
use Rattle.regalloc2_names.specs.declared.OperandPos.TheVariants.{Early, Late}
use Rattle.codegen_operation.specs.Operands.{operands_of}
use Rattle.codegen_operation.specs.declared.operation.Operation.{Operation}

class_back : (c : RegClass) → class_of_code (class_code c) ≡ c
class_back Int = refl
class_back Float = refl
class_back Vector = refl

-- a constraint as three numbers: its form, and its fields
abbrev constraint_numbers : OperandConstraint → ℕ × (ℕ × ℕ)
constraint_numbers Any = (0, (0, 0))
constraint_numbers Reg = (1, (0, 0))
constraint_numbers Stack = (2, (0, 0))
constraint_numbers (FixedReg r) = (3, (r.number, class_code r.class))
constraint_numbers (Reuse n) = (4, (n, 0))
constraint_numbers (Limit n) = (5, (n, 0))

abbrev constraint_of : ℕ → ℕ → ℕ → OperandConstraint
constraint_of zero n c = Any
constraint_of (suc zero) n c = Reg
constraint_of (suc (suc zero)) n c = Stack
constraint_of (suc (suc (suc zero))) n c = FixedReg (record { number = n; class = class_of_code c })
constraint_of (suc (suc (suc (suc zero)))) n c = Reuse n
constraint_of (suc (suc (suc (suc (suc m))))) n c = Limit n

constraint_numbers_back : (o : OperandConstraint) → constraint_of (constraint_numbers o).0 (constraint_numbers o).1.0 (constraint_numbers o).1.1 ≡ o
constraint_numbers_back Any = refl
constraint_numbers_back Reg = refl
constraint_numbers_back Stack = refl
constraint_numbers_back (FixedReg r) = rw class_back refl
constraint_numbers_back (Reuse n) = refl
constraint_numbers_back (Limit n) = refl

abbrev kind_number : OperandKind → ℕ
kind_number Def = 0
kind_number Use = 1

abbrev kind_of : ℕ → OperandKind
kind_of zero = Def
kind_of (suc n) = Use

kind_number_back : (k : OperandKind) → kind_of (kind_number k) ≡ k
kind_number_back Def = refl
kind_number_back Use = refl

abbrev position_number : OperandPos → ℕ
position_number Early = 0
position_number Late = 1

abbrev position_of : ℕ → OperandPos
position_of zero = Early
position_of (suc n) = Late

position_number_back : (k : OperandPos) → position_of (position_number k) ≡ k
position_number_back Early = refl
position_number_back Late = refl

vreg_code : Coded VirtualRegister
vreg_code = code_by (ℕ × ℕ) (coded× coded_ℕ coded_ℕ) (λ v. (v.number, class_code v.class))
    (λ p. record { number = p.0; class = class_of_code p.1 }) (λ v. rw class_back refl)

coded_constraint : Coded OperandConstraint
coded_constraint = code_by (ℕ × (ℕ × ℕ)) (coded× coded_ℕ (coded× coded_ℕ coded_ℕ)) constraint_numbers
    (λ p. constraint_of p.0 p.1.0 p.1.1) constraint_numbers_back

coded_kind : Coded OperandKind
coded_kind = code_by ℕ coded_ℕ kind_number kind_of kind_number_back

coded_position : Coded OperandPos
coded_position = code_by ℕ coded_ℕ position_number position_of position_number_back

abbrev Parts : Type 0
Parts = VirtualRegister × (OperandConstraint × (OperandKind × OperandPos))

operand_code : Coded OperandValue
operand_code = code_by Parts (coded× vreg_code (coded× coded_constraint (coded× coded_kind coded_position)))
    (λ o. (o.vreg, (o.constraint, (o.kind, o.position))))
    (λ p. record { vreg = p.0; constraint = p.1.0; kind = p.1.1.0; position = p.1.1.1 }) (λ o. refl)

pub operands-once : (os : List OperandValue) (o : Operation) → IsProp (os ≡ operands_of o)
operands-once os o = Coded-set (coded_list operand_code) os (operands_of o)
