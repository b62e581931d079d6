use Rattle.std.proofs.Common.{◌≡◌, ◌≤◌, length}
use Rattle.regalloc2_checker_sets.specs.SavedNumbers.{AreWrittenTo}
use Rattle.regalloc2_checker_sets.proofs.entries.Entries.write_all.Given as goal

-- the first t numbers are written
abbrev pub invariant-loop-t : goal.invariant-loop-t
invariant-loop-t g l = record {
  last : l.t-end ≡ length l.numbers;
  low : l.t ≤ length l.numbers;
  written : AreWrittenTo l.numbers l.first l.t l.fn.self l.self;
}
