-- A table with room for what the function defines has an entry for each number that is made.
use Rattle.std.proofs.Common.{ℕ, ◌<◌, ◌∙◌, inl, inr, refl, arith}
use Rattle.std.proofs.lemmas.List.{get_or_default}
use Rattle.regalloc2_names.specs.Operand.{OperandValue}
use Rattle.regalloc2_names.specs.Place.{before, after}
use Rattle.regalloc2_names.specs.Register.{VirtualRegister, no_vreg}
use Rattle.regalloc2_function.specs.FunctionValue.{FunctionValue, block_at, inst_at, op_at}
use Rattle.regalloc2_function.specs.WellFormed.{DefinedOnce}
use Rattle.regalloc2_function.specs.Inside.TableLength.{CoversDefinitions}
use Rattle.regalloc2_carry.proofs.SingleDef.{IsDefOperand, Made, made_small}
use Rattle.regalloc2_carry.proofs.SingleDef.Made.{by_operand}

-- what is made has an entry
pub made_room : (f : FunctionValue) → DefinedOnce f → (n : ℕ) → CoversDefinitions f n → (v : VirtualRegister) → Made f v → v.number < n
made_room f once n room v (by_operand i k x e) = room v (after i) (inr (i, k, omega arith, x.operand, x.definition, e))
    (made_small f once v (by_operand i k x e))
made_room f once n room v (Made.by_param b k x e) = room v (before (block_at f b).range.first)
    (inl (b, x.block, omega arith, (k, x.param, get_or_default (block_at f b).params k v no_vreg x.param ∙ e)))
    (made_small f once v (Made.by_param b k x e))

-- what an operand defines has a number within the room
pub defined_room : (f : FunctionValue) → DefinedOnce f → (n : ℕ) → CoversDefinitions f n → (m i k : ℕ) → IsDefOperand f m i k → m < n
defined_room f once n room m i k x =
    let o : OperandValue = op_at (inst_at f i).operands k in
    let d : IsDefOperand f o.vreg.number i k = record { inst = x.inst; operand = x.operand; definition = x.definition; number = refl } in
    let lt = made_room f once n room o.vreg (by_operand i k d refl) in
    let same = x.number in
    omega (arith, lt, same)
