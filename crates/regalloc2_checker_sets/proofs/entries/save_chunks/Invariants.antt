use Rattle.std.proofs.Common.{◌-◌, length}
use Rattle.regalloc2_checker_sets.specs.SavedCopies.{AreMoreWords}
use Rattle.regalloc2_checker_sets.specs.SavedNumbers.{AreChunksKept, AreCopiesKept, AreSaved}
use Rattle.regalloc2_checker_sets.proofs.entries.save_chunks.Given as goal

abbrev pub invariant-loop-chunk : goal.invariant-loop-chunk
invariant-loop-chunk g l = record {
  words : AreMoreWords l.fn.words.items l.words.items;
  kept : AreChunksKept l.words.items l.cells l.bases;
  copies : AreCopiesKept l.fn.bases l.bases;
  saved : AreSaved l.bases l.from;
}

abbrev pub decreases-loop-chunk : goal.decreases-loop-chunk
decreases-loop-chunk g l = length l.bases.cells - l.from
