use Rattle.std.proofs.Common.{arith}
use Rattle.regalloc2_names.specs.Operand.{OperandValue}
use Rattle.regalloc2_names.specs.Packing.{IsOperand, IsOperandBits-bits_of_operand, operand_of_bits-bits_of_operand}
use Rattle.regalloc2_names.proofs.Bits.{operand_made}
use Rattle.regalloc2_names.proofs.operands.Operand.new.Goals as goal

pub invariant_of-result : goal.invariant_of-result
invariant_of-result c =
    let o : OperandValue = record { vreg = c.args.vreg; constraint = c.args.constraint; kind = c.args.kind; position = c.args.pos } in
    let h : IsOperand o = (omega arith, c.requires) in
    rw (operand_made o c.vreg.result c.class.result c.constraint_field-constraint_field.result h c.vreg.ensures.number c.class.ensures
    c.constraint_field-constraint_field.ensures.code c.constraint_field-constraint_field.ensures.small)
    (IsOperandBits-bits_of_operand o h)

pub returns : goal.returns
returns c =
    let o : OperandValue = record { vreg = c.args.vreg; constraint = c.args.constraint; kind = c.args.kind; position = c.args.pos } in
    let h : IsOperand o = (omega arith, c.requires) in
    rw (operand_made o c.vreg.result c.class.result c.constraint_field-constraint_field.result h c.vreg.ensures.number c.class.ensures
    c.constraint_field-constraint_field.ensures.code c.constraint_field-constraint_field.ensures.small)
    (operand_of_bits-bits_of_operand o h)
