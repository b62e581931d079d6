use Rattle.std.proofs.Common.{refl, arith}
use Rattle.std.proofs.lemmas.List.{length_push}
use Rattle.regalloc2_analysis.proofs.LivenessLemmas.EdgeLists.{empty_more}
use Rattle.regalloc2_analysis.proofs.liveness.edges.no_edges.Goals as goal

pub loop-init : goal.loop-init
loop-init g c = record { long = rw c.in_ok-edges.ensures.items refl; none = λ n. rw c.in_ok-edges.ensures.items refl }

pub loop-preserved : goal.loop-preserved
loop-preserved g c = record {
  long = rw c.in_ok-push.ensures.items (omega (arith, length_push c.loop.edges.items c.new.result, c.loop.invariant.long));
  none = λ n. rw c.in_ok-push.ensures.items (empty_more c.loop.edges.items c.new.result n c.new.ensures.items c.loop.invariant.none);
}
