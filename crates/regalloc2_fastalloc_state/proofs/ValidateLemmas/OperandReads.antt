-- Operands that the code reads.
use Rattle.std.proofs.Common.{ℕ, ◌≡◌, ◌<◌, List, length, ap, ◌∙◌, slice_index_or}
use Rattle.std.proofs.lemmas.List.{get_or_read}
use Rattle.regalloc2_names.specs.Register.{VirtualRegister}
use Rattle.regalloc2_names.specs.Operand.{OperandValue}
use Rattle.regalloc2_function.specs.FunctionValue.{op_at}
use Rattle.regalloc2_function.specs.FunctionValue.{no_operand}

-- what is read at an index is the operand of that index
pub read_operand : (ops : List OperandValue) (k : ℕ) (o : OperandValue) → k < length ops → o ≡ slice_index_or ops k o → o ≡ op_at ops k
read_operand ops k o lt e = get_or_read ops k o lt e no_operand

-- its vreg is that of the operand in the list
pub read_vreg : (ops : List OperandValue) (k : ℕ) (o : OperandValue) (v : VirtualRegister) → k < length ops → o ≡ slice_index_or ops k o → v ≡ o.vreg →
    v ≡ (op_at ops k).vreg
read_vreg ops k o v lt e f = f ∙ ap (λ (x : OperandValue). x.vreg) (read_operand ops k o lt e)
