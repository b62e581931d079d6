use Rattle.std.proofs.Common.{ap}
use Rattle.regalloc2_function.specs.Numbers.{NumberSet}
use Rattle.regalloc2_checker_sets.specs.EntrySets.{has_bits}
use Rattle.regalloc2_checker_sets.proofs.TwoSets.{kept-pushed}
use Rattle.regalloc2_checker_sets.proofs.kept_set.Kept.many.Goals as goal

pub returns : goal.returns
returns g c y =
    ap (λ (s : NumberSet). has_bits s y)
    (kept-pushed 0 0 c.push.new.self.items c.in_ok-many.many.items c.args.set c.in_ok-push.ensures.items c.in_ok-many.ensures.items)
