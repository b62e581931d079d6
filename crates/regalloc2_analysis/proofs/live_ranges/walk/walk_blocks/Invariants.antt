use Rattle.std.proofs.Common.{◌≤◌, length}
use Rattle.regalloc2_analysis.specs.LiveRanges.LiveRanges.{IsWanted}
use Rattle.regalloc2_analysis.specs.LiveRanges.Entries.{spread}
use Rattle.regalloc2_analysis.specs.LiveRanges.WalkInvariant.{AreRangesWalked, ListsAdding, begin_of}
use Rattle.regalloc2_analysis.proofs.live_ranges.walk.walk_blocks.Given as goal

-- the blocks from b on are walked
abbrev pub invariant-loop-b : goal.invariant-loop-b
invariant-loop-b g l = record {
  within : l.b ≤ length (g.F.Function.function l.f).blocks;
  listed : ListsAdding (g.F.Function.function l.f) (IsWanted l.wanted) l.listed l.many (begin_of (g.F.Function.function l.f) l.b);
  walked : AreRangesWalked (g.F.Function.function l.f) (IsWanted l.wanted) (begin_of (g.F.Function.function l.f) l.b) l.b
      (spread l.indexes l.ends) (spread l.indexes l.ranges);
}

abbrev pub decreases-loop-b : goal.decreases-loop-b
decreases-loop-b g l = l.b
