use Rattle.std.proofs.Common.{ℕ, ◌≡◌, ◌*◌, ◌-◌, ◌≤◌, length, get_or}
use Rattle.regalloc2_checker_sets.specs.SavedNumbers.{AreLoaded}
use Rattle.regalloc2_checker_sets.proofs.entries.load_chunks.Given as goal

abbrev pub invariant-loop-chunk : goal.invariant-loop-chunk
invariant-loop-chunk g l = record {
  loaded : AreLoaded l.words l.cells l.bases l.copy l.from;
  rest : (i : ℕ) → 64 * l.from ≤ i → get_or l.cells i 0 ≡ get_or l.fn.cells i 0;
}

abbrev pub decreases-loop-chunk : goal.decreases-loop-chunk
decreases-loop-chunk g l = length l.bases.cells - l.from
