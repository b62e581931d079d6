use Rattle.std.proofs.Common.{ℕ, ◌≡◌, ◌+◌, ◌-◌, ◌<◌, ◌≤◌, get_or}
use Rattle.regalloc2_checker_sets.proofs.versions.difference_in.Given as goal

abbrev pub invariant-loop-t : goal.invariant-loop-t
invariant-loop-t l = (t : ℕ) → l.from - l.first ≤ t → t < l.t → get_or l.cells (l.first + t) 0 ≡ get_or l.words (l.base + t) 0
