use Rattle.std.proofs.Common.{◌++◌}
use Rattle.regalloc2_function.proofs.NumberSets.{has_same, words_same}
use Rattle.regalloc2_function.proofs.indexset.IndexSet.assign.Goals as goal

pub returns-clause-ok : goal.returns-clause-ok
returns-clause-ok g c =
    rw c.copy-self-inside.ensures
    (has_same (c.other.inside.few ++ c.in_ok-many.many.entries) c.args.other.now
    (words_same c.other.inside.few c.other.inside.many.entries c.in_ok-many.many.entries c.args.other.now c.other.view_is c.in_ok-many.ensures))
