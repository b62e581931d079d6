use Rattle.std.proofs.Common.{◌∙◌, ap, arith}
use Rattle.regalloc2_analysis.specs.Liveness.Edges.{names_block}
use Rattle.regalloc2_analysis.proofs.LivenessLemmas.EdgeLists.{all_edges_end, all_edges_more, names_empty}
use Rattle.regalloc2_analysis.proofs.liveness.edges.add_all_edges.Goals as goal

pub loop-b-init : goal.loop-b-init
loop-b-init g c = record {
  whole = c.num_blocks-b-end.ensures.count;
  so_far = λ n p. (λ less. absurd (omega arith), λ past. ap (λ xs. names_block xs p) (c.requires.none n) ∙ names_empty p);
}

pub loop-b-preserved : goal.loop-b-preserved
loop-b-preserved g c = record {
  whole = c.loop-b.invariant.whole;
  so_far = all_edges_more (g.F.Function.function c.args.f.now) c.loop-b.b c.loop-b.edges c.add_edges.new.edges c.loop-b.invariant.so_far
      (rw (c.block_succs.ensures, c.new-block.ensures) at c.in_ok-add_edges.ensures);
}

pub returns : goal.returns
returns g c = all_edges_end (g.F.Function.function c.args.f.now) c.loop-b.b c.loop-b.edges (omega (arith, c.loop-b.invariant.whole)) c.loop-b.invariant.so_far
