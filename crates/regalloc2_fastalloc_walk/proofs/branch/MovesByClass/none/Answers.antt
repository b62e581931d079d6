use Rattle.regalloc2_fastalloc_proofs.proofs.Branches.ArgMovesAreParallel.{are_of_none}
use Rattle.regalloc2_fastalloc_walk.proofs.branch.MovesByClass.none.Goals as goal

pub returns : goal.returns
returns g c = are_of_none c.new.result c.new-2.result c.new-3.result c.new.ensures c.new-2.ensures c.new-3.ensures
