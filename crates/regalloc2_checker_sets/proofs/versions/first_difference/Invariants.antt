use Rattle.std.proofs.Common.{◌*◌}
use Rattle.regalloc2_checker_sets.specs.SavedCopies.{AreSame}
use Rattle.regalloc2_checker_sets.proofs.versions.first_difference.Given as goal

abbrev pub invariant-loop-chunk : goal.invariant-loop-chunk
invariant-loop-chunk l = AreSame l.words l.bases l.cells l.from (64 * l.chunk)
