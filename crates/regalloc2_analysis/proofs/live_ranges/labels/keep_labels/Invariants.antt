use Rattle.std.proofs.Common.{take, map}
use Rattle.regalloc2_function.specs.FunctionValue.{label_of}
use Rattle.regalloc2_analysis.specs.LiveRanges.LiveRanges.{AreKeptLabels}
use Rattle.regalloc2_analysis.proofs.live_ranges.labels.keep_labels.Given as goal

-- the labels so far that are kept
abbrev pub invariant-loop-label : goal.invariant-loop-label
invariant-loop-label g l = AreKeptLabels (g.F.Function.function l.f) (map label_of (take l.label-index l.label-items)) l.kept.items
