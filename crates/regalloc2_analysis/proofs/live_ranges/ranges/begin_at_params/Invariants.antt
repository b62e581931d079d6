use Rattle.regalloc2_analysis.specs.LiveRanges.LiveRanges.{IsWanted}
use Rattle.regalloc2_analysis.specs.LiveRanges.Entries.{spread}
use Rattle.regalloc2_analysis.specs.LiveRanges.WalkInvariant.{AreRight, Stay}
use Rattle.regalloc2_analysis.proofs.LiveRangesLemmas.LiveRangeTable.{AreTaken}
use Rattle.regalloc2_analysis.proofs.live_ranges.ranges.begin_at_params.Given as goal

-- the parameters so far that are used have their entries
abbrev pub invariant-loop-param : goal.invariant-loop-param
invariant-loop-param g l = record {
  right : AreRight (g.F.Function.function l.f) (spread l.indexes l.ranges);
  stay : Stay (spread l.indexes l.fn.ranges) (spread l.indexes l.ranges);
  so_far : AreTaken (IsWanted l.wanted) l.param-items l.param-index (spread l.indexes l.ends) (spread l.indexes l.ranges);
}
