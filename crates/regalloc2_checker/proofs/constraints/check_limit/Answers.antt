use Rattle.std.proofs.Common.{rules}
use Rattle.regalloc2_checker.specs.Report.IsConstraintFault.{limits_no_register, past_limit}
use Rattle.regalloc2_checker.proofs.OperandErrors.{not_so}
use Rattle.regalloc2_checker.proofs.constraints.check_limit.Goals as goal

pub returns-then-not-is_plain_reg : goal.returns-then-not-is_plain_reg
returns-then-not-is_plain_reg g c = λ env h count places. limits_no_register c.args.max (not_so _ _ (c.is_plain_reg.ensures env h) (search rules))

pub returns : goal.returns
returns g c = λ env h count places. past_limit c.args.max ((c.is_plain_reg.ensures env h).0 (search rules))
    (not_so _ _ c.is_numbered_below.ensures c.if-is_numbered_below.false)
