use Rattle.std.proofs.Common.{◌*◌}
use Rattle.regalloc2_checker_sets.specs.SavedCopies.{AreClean, AreSame}
use Rattle.regalloc2_checker_sets.proofs.versions.load_all.Given as goal

abbrev pub invariant-loop-chunk : goal.invariant-loop-chunk
invariant-loop-chunk l = record {
  kept : AreClean l.words l.cells l.clean;
  loaded : AreSame l.words l.bases l.cells 0 (64 * l.chunk);
}
