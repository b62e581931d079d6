use Rattle.regalloc2_names.specs.Packing.{IsOperand-operand_of_bits}
use Rattle.regalloc2_names.proofs.operands.Operand.constraint.Goals as goal

pub returns-then-field-lt-REUSE-clause-of_class : goal.returns-then-field-lt-REUSE-clause-of_class
returns-then-field-lt-REUSE-clause-of_class c = rw (← c.self.view_is) (IsOperand-operand_of_bits c.self.inside.bits c.self.invariant).1
