use Rattle.std.proofs.Common.{ℕ, ◌≡◌, ◌+◌, ◌-◌, ◌<◌, ◌≤◌, get_or}
use Rattle.regalloc2_checker_sets.proofs.versions.equal_groups.Given as goal

abbrev pub invariant-loop-t : goal.invariant-loop-t
invariant-loop-t l = record {
  low : l.from ≤ l.t;
  same : (t : ℕ) → l.from ≤ t → t < l.t → get_or l.cells (l.first + t) 0 ≡ get_or l.words (l.base + t) 0;
}

abbrev pub decreases-loop-t : goal.decreases-loop-t
decreases-loop-t l = 64 - l.t
