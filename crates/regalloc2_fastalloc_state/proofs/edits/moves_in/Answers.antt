use Rattle.std.proofs.Common.{◌∙◌}
use Rattle.regalloc2_fastalloc_state.proofs.EditsPushed.{all_counted, one_counted}
use Rattle.regalloc2_fastalloc_state.proofs.edits.moves_in.Goals as goal

pub loop-chunk-preserved : goal.loop-chunk-preserved
loop-chunk-preserved g c = record {
  so_far = one_counted (λ chunk. chunk.items) c.args.chunks.now c.loop-chunk.chunk-index c.chunk-item.result 18446744073709551615 c.loop-chunk.moves
      c.len.result c.saturating_add-moves.result c.loop-chunk-test.true c.chunk-item.is c.loop-chunk.invariant.so_far
      (c.len.ensures ∙ c.chunk-item.result.ok.0) c.saturating_add-moves.ensures;
}

pub returns : goal.returns
returns g c = all_counted (λ chunk. chunk.items) c.args.chunks.now c.loop-chunk.chunk-index 18446744073709551615 c.loop-chunk.moves c.loop-chunk-test.false
    c.loop-chunk.invariant.so_far
