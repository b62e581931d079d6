use Rattle.std.proofs.Common.{false, ◌*◌, ◌-◌, ◌≤◌, length}
use Rattle.regalloc2_checker.specs.Holding.{IsMetBetween}
use Rattle.regalloc2_checker.proofs.tables.meet_entries.Given as goal

abbrev pub invariant-loop-chunk : goal.invariant-loop-chunk
invariant-loop-chunk g l = record {
  inside : 64 * l.from ≤ length l.fn.entries.cells;
  met : IsMetBetween l.fn.sets l.fn.entries l.sets l.entries l.table 0 (64 * l.from) l.bound false l.is_less;
}

abbrev pub decreases-loop-chunk : goal.decreases-loop-chunk
decreases-loop-chunk g l = length l.fn.entries.cells - l.from
