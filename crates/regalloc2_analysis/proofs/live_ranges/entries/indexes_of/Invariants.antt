use Rattle.std.proofs.Common.{◌≡◌, length}
use Rattle.regalloc2_analysis.proofs.LiveRangesLemmas.Spread.{IndexesSoFar}
use Rattle.regalloc2_analysis.proofs.live_ranges.entries.indexes_of.Given as goal

-- the numbers so far have their indexes
abbrev pub invariant-loop-number : goal.invariant-loop-number
invariant-loop-number g l = record { len : length l.indexes.items ≡ l.number; indexes : IndexesSoFar l.wanted l.indexes.items l.count l.num }
