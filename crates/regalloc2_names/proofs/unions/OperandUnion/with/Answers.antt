use Rattle.std.proofs.Common.{refl}
use Rattle.std.proofs.lemmas.List.Elements.{All-cons}
use Rattle.regalloc2_names.specs.Packing.{IsOperand, IsOperand-operand_of_bits}
use Rattle.regalloc2_names.specs.OperandUnion.{union_bits}
use Rattle.regalloc2_names.proofs.unions.OperandUnion.with.Goals as goal

pub returns : goal.returns
unfolding union_bits
returns c operands h =
    let own : IsOperand c.args.operand = rw c.bits.ensures.operand at (IsOperand-operand_of_bits c.bits.result c.bits.ensures.word) in
    record {
      are_operands = All-cons IsOperand c.args.operand operands own h.are_operands;
      bits = rw (h.bits, c.bits.ensures.bits) refl;
    }
