use Rattle.std.proofs.Common.{arith, refl, ap}
use Rattle.std.proofs.Common.{List, length}
use Rattle.regalloc2_function.specs.Numbers.{NumberSet}
use Rattle.regalloc2_checker_sets.proofs.TwoSets.{kept-two}
use Rattle.regalloc2_checker_sets.proofs.kept_set.Kept.pair.Goals as goal

pub returns : goal.returns
returns g c = kept-two c.args.first c.args.second c.new.result.items _ refl
    (ap (λ (l : List NumberSet). length l) c.new.ensures.items) (omega arith) (omega arith)
