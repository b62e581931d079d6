use Rattle.regalloc2_analysis.specs.LiveRanges.Marks.{NamedAmong}
use Rattle.regalloc2_function.specs.Inside.MarkedNumbers.{Marks}
use Rattle.regalloc2_analysis.proofs.live_ranges.wanted.mark_labelled.Given as goal

-- the numbers of the labels so far are marked
abbrev pub invariant-loop-j : goal.invariant-loop-j
invariant-loop-j l = Marks (NamedAmong l.labels l.j) l.initial.wanted l.wanted
