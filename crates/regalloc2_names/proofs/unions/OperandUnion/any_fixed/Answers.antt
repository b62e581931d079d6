use Rattle.regalloc2_names.proofs.OperandUnions.{fixed_in_union}
use Rattle.regalloc2_names.proofs.unions.OperandUnion.any_fixed.Goals as goal

pub returns : goal.returns
returns c operands h = rw h.bits (fixed_in_union operands h.are_operands)
