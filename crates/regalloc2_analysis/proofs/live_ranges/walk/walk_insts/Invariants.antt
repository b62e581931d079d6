use Rattle.std.proofs.Common.{ℕ, ◌≡◌, ◌+◌, ◌<◌, ◌≤◌}
use Rattle.regalloc2_function.specs.FunctionValue.{block_at}
use Rattle.regalloc2_analysis.specs.LiveRanges.LiveRanges.{IsWanted}
use Rattle.regalloc2_analysis.specs.LiveRanges.Entries.{spread}
use Rattle.regalloc2_analysis.specs.LiveRanges.WalkInvariant.{AreRangesWalked, ListsAdding}
use Rattle.regalloc2_analysis.proofs.live_ranges.walk.walk_insts.Given as goal

-- the instructions from some instruction of the block on are walked, and `left` listed ones are below it
abbrev pub invariant-loop-block : goal.invariant-loop-block
invariant-loop-block g l = record {
  first : l.first ≡ (block_at (g.F.Function.function l.f) l.block).range.first;
  walked : (i : ℕ) × (l.first ≤ i) × (i < (block_at (g.F.Function.function l.f) l.block).range.end) ×
      ListsAdding (g.F.Function.function l.f) (IsWanted l.wanted) l.listed l.left i ×
      AreRangesWalked (g.F.Function.function l.f) (IsWanted l.wanted) i (l.block + 1) (spread l.indexes l.ends) (spread l.indexes l.ranges);
}

abbrev pub decreases-loop-block : goal.decreases-loop-block
decreases-loop-block g l = l.left
