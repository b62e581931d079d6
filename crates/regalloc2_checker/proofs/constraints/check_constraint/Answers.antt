use Rattle.regalloc2_checker.specs.Report.IsConstraintFault.{no_register, no_stack, not_fixed}
use Rattle.regalloc2_checker.proofs.OperandErrors.{not_so}
use Rattle.regalloc2_checker.proofs.constraints.check_constraint.Goals as goal

pub returns-else-is_plain_reg : goal.returns-else-is_plain_reg
returns-else-is_plain_reg g c = λ env h there. rw (← c.in-Reg.ensures.constraint)
    (no_register (not_so _ _ (c.is_plain_reg.ensures env h) c.if-is_plain_reg.false))

pub returns-else-is_stack : goal.returns-else-is_stack
returns-else-is_stack g c = λ env h there. rw (← c.in-Stack.ensures.constraint) (no_stack (not_so _ _ (c.is_stack.ensures env h) c.if-is_stack.false))

pub returns-else-eq : goal.returns-else-eq
returns-else-eq g c = λ env h there. rw (← c.in-FixedReg.ensures.constraint)
    (not_fixed c.in-FixedReg.reg (λ e. not_so _ _ c.eq.ensures.same c.if-eq.false (rw c.reg.ensures e)))
