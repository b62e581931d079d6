use Rattle.regalloc2_checker_sets.specs.SavedCopies.{AreClean, AreMoreWords, AreBases}
use Rattle.regalloc2_checker_sets.proofs.versions.save_all.Given as goal

abbrev pub invariant-loop-chunk : goal.invariant-loop-chunk
invariant-loop-chunk g l = record {
  words : AreMoreWords l.fn.words.items l.words.items;
  kept : AreClean l.words.items l.cells l.clean;
  saved : AreBases l.words.items l.cells l.bases.items l.chunk;
}
