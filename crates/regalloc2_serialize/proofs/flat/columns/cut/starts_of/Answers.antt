use Rattle.std.proofs.Common.{arith, ◌+◌, ◌∙◌}
use Rattle.std.proofs.lemmas.List.{length-set}
use Rattle.regalloc2_serialize.proofs.ColumnsLemmas.Starts.{starts-more, starts-small}
use Rattle.regalloc2_serialize.proofs.flat.columns.cut.starts_of.Goals as goal

pub loop-k-preserved : goal.loop-k-preserved
loop-k-preserved c =
    let k = c.loop-k.k in
    let long = c.loop-k.invariant.long in
    record {
      long = length-set c.loop-k.starts (k + 1) _ ∙ long;
      sums = starts-more c.args.widths c.loop-k.starts k (omega arith) (omega (arith, long)) c.loop-k.invariant.sums;
      small = omega (arith, starts-small c.args.widths c.loop-k.starts k 34359738368 (omega (arith, long)) c.loop-k.invariant.small (c.requires k 0 (omega arith)));
    }
