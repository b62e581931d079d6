use Rattle.std.proofs.Common.{ℕ, ◌≡◌, ◌<◌, length}
use Rattle.std.specs.Prelude.{slice_index}
use Rattle.regalloc2_serialize.specs.Rewrite.SplitEdges.{AgreeUpToTwo}
use Rattle.regalloc2_serialize.proofs.RewriteLemmas.SplitSteps.{listed_by}
use Rattle.regalloc2_serialize.proofs.rewrite.edges.entries_of.Given as goal

abbrev pub invariant-loop-block : goal.invariant-loop-block
invariant-loop-block g l = record {
  long : length l.counts.items ≡ length (g.F.Function.function l.f).blocks;
  counted : (t : ℕ) → t < length (g.F.Function.function l.f).blocks →
      AgreeUpToTwo (slice_index l.counts.items t) (listed_by (g.F.Function.function l.f) l.block t);
}
