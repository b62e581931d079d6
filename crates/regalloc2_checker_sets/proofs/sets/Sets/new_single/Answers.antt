use Rattle.std.proofs.Common.{arith}
use Rattle.regalloc2_checker_sets.proofs.Bits.{ok-as}
use Rattle.regalloc2_checker_sets.proofs.Lone.{single-is, set-is}
use Rattle.regalloc2_checker_sets.proofs.sets.Sets.new_single.Goals as goal

pub returns-clause-found : goal.returns-clause-found
returns-clause-found g c =
    ok-as _ _ c.add.result
    (λ n h. set-is c.add.new.self n _ _
    (single-is c.new-set.result c.set.new.self c.args.bits (omega arith) c.new-set.ensures c.in_ok-set.ensures.ok) h)
    c.add.ensures.found
