use Rattle.regalloc2_checker_sets.proofs.MoreLists.{grown-none}
use Rattle.regalloc2_checker_sets.proofs.more_places.MoreList.new.Goals as goal

pub invariant_of-result : goal.invariant_of-result
invariant_of-result g c = grown-none c.new.result.items c.new-2.result.items c.new.ensures.items c.new-2.ensures.items
