use Rattle.std.proofs.Common.{length}
use Rattle.regalloc2_analysis.specs.LiveRanges.LiveRanges.{IsWanted}
use Rattle.regalloc2_analysis.specs.LiveRanges.WalkInvariant.{AreNamers}
use Rattle.regalloc2_analysis.proofs.live_ranges.wanted.naming.Given as goal

-- the instructions so far that name some are listed
abbrev pub invariant-loop-i : goal.invariant-loop-i
invariant-loop-i g l = AreNamers (g.F.Function.function l.f) (IsWanted l.wanted) l.named.items (length l.named.items) l.i
