use Rattle.regalloc2_analysis.specs.LiveRanges.LiveRanges.{IsWanted}
use Rattle.regalloc2_analysis.specs.LiveRanges.Entries.{spread}
use Rattle.regalloc2_analysis.specs.LiveRanges.WalkInvariant.{AreRight, Stay}
use Rattle.regalloc2_analysis.proofs.LiveRangesLemmas.LiveRangeTable.{AreBegun}
use Rattle.regalloc2_analysis.proofs.live_ranges.ranges.begin_at_defs.Given as goal

-- the definitions so far have their entries
abbrev pub invariant-loop-index : goal.invariant-loop-index
invariant-loop-index g l = record {
  right : AreRight (g.F.Function.function l.f) (spread l.indexes l.ranges);
  stay : Stay (spread l.indexes l.fn.ranges) (spread l.indexes l.ranges);
  so_far : AreBegun (IsWanted l.wanted) l.operand-items l.index (spread l.indexes l.ranges);
}
