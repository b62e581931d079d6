use Rattle.std.proofs.Common.{ℕ, ◌≡◌, ◌+◌, ◌<◌, length, take}
use Rattle.std.specs.Prelude.{slice_index}
use Rattle.regalloc2_function.specs.WellFormed.{times_in}
use Rattle.regalloc2_serialize.specs.Rewrite.SplitEdges.{AgreeUpToTwo}
use Rattle.regalloc2_serialize.proofs.rewrite.edges.count_entries.Given as goal

abbrev pub invariant-loop-succ : goal.invariant-loop-succ
invariant-loop-succ g l = record {
  long : length l.counts.items ≡ length l.initial.counts.items;
  counted : (t : ℕ) → t < length l.initial.counts.items →
      AgreeUpToTwo (slice_index l.counts.items t) (slice_index l.initial.counts.items t + times_in t (take l.succ-index l.succs));
}
