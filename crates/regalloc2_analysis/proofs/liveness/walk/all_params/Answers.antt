use Rattle.regalloc2_analysis.proofs.LivenessLemmas.LiveAtBlockBegin.{params_more, params_start}
use Rattle.regalloc2_analysis.proofs.liveness.walk.all_params.Goals as goal

pub loop-b-init : goal.loop-b-init
loop-b-init g c = record {
  end = c.num_blocks-b-end.ensures.count;
  so_far = params_start (g.F.Function.function c.args.f.now) c.new-params.result
      c.new-params.ensures;
}

pub loop-b-preserved : goal.loop-b-preserved
loop-b-preserved g c = record {
  end = c.loop-b.invariant.end;
  so_far = params_more (g.F.Function.function c.args.f.now) c.loop-b.b c.loop-b.params c.note_params.new.noted c.loop-b.invariant.so_far
      (rw (c.block_params.ensures, c.new-block.ensures) at c.in_ok-note_params.ensures);
}
