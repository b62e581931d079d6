use Rattle.std.proofs.Common.{◌+◌, ap}
use Rattle.regalloc2_names.proofs.LimitBits.{zeros_of_limit}
use Rattle.regalloc2_names.proofs.operands.constraint_field.Goals as goal

pub returns-in-Limit-clause-code : goal.returns-in-Limit-clause-code
returns-in-Limit-clause-code c =
    let h = rw c.in-Limit.is at c.requires in
    rw c.in-Limit.is (ap (λ n. 16 + n) (zeros_of_limit c.in-Limit.max h))
