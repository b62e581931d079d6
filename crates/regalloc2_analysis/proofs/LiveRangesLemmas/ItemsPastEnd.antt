-- Items of lists, whatever is read past the end.
use Rattle.std.proofs.Common.{ℕ, ◌≡◌, ◌<◌, List, length, ◌∙◌}
use Rattle.std.specs.Prelude.{slice_index_or}
use Rattle.std.proofs.lemmas.List.{get_or_default}
use Rattle.regalloc2_names.specs.Operand.{OperandValue}
use Rattle.regalloc2_function.specs.FunctionValue.{op_at}
use Rattle.regalloc2_function.specs.FunctionValue.{no_operand}

-- an operand that was read within the list is the one at its index
pub op_is : (ops : List OperandValue) (k : ℕ) (o : OperandValue) → k < length ops → slice_index_or ops k o ≡ o → op_at ops k ≡ o
op_is ops k o lt is = get_or_default ops k no_operand o lt ∙ is
