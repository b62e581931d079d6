use Rattle.std.proofs.Common.{◌≡◌, take}
use Rattle.regalloc2_analysis.specs.LiveRanges.Entries.{spread}
use Rattle.regalloc2_analysis.proofs.live_ranges.walk.spread_out.Given as goal

-- the entries of the numbers so far
abbrev pub invariant-loop-number : goal.invariant-loop-number
invariant-loop-number g l = l.ranges.items ≡ take l.number (spread l.indexes l.entries)
