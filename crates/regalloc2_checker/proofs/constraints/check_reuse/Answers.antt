use Rattle.std.proofs.Common.{arith, rules, sym, ◌∙◌}
use Rattle.regalloc2_checker.specs.Report.IsConstraintFault.{reuses_no_register, reuses_no_operand, not_reused}
use Rattle.regalloc2_checker.proofs.OperandErrors.{not_so}
use Rattle.regalloc2_checker.proofs.constraints.check_reuse.Goals as goal

pub returns-then-not-is_reg : goal.returns-then-not-is_reg
returns-then-not-is_reg g c = λ env. reuses_no_register c.args.index (search rules)

pub returns-then-index-count : goal.returns-then-index-count
returns-then-index-count g c = λ env. reuses_no_operand c.args.index (search rules) (omega (arith, c.if-index-count.true))

pub returns : goal.returns
returns g c = λ env. rw c.place_at-expected_alloc.ensures (not_reused c.args.index (search rules) (omega (arith, c.if-index-count.false))
    (λ e. not_so _ _ c.eq.ensures.same c.if-eq.false (e ∙ sym c.place_at-expected_alloc.ensures)))
