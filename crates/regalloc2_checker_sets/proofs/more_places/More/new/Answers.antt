use Rattle.regalloc2_function.specs.Numbers.{times_listed}
use Rattle.regalloc2_checker_sets.specs.Homes.{has_more}
use Rattle.regalloc2_checker_sets.proofs.MoreLaws.{empty-has}
use Rattle.regalloc2_checker_sets.proofs.more_places.More.new.Goals as goal

pub returns : goal.returns
unfolding has_more times_listed
returns g c i = empty-has i
