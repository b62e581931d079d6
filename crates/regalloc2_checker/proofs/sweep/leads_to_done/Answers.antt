use Rattle.std.proofs.Common.{◌≡◌, false, ◌∙◌, arith, below_more}
use Rattle.std.specs.Prelude.{slice_index}
use Rattle.regalloc2_function.specs.FunctionValue.{FunctionValue, block_at}
use Rattle.regalloc2_checker.specs.Swept.{done_at}
use Rattle.regalloc2_checker.proofs.BlocksInRange.{index_is}
use Rattle.regalloc2_checker.proofs.sweep.leads_to_done.Goals as goal

pub loop-k-preserved : goal.loop-k-preserved
loop-k-preserved g c =
    let f : FunctionValue = g.F.Function.function c.args.f.now in
    let at : c.index-in-loop-k.result ≡ slice_index (block_at f c.args.block).succs c.loop-k.k =
    c.index-in-loop-k.ensures ∙ index_is (block_at f c.args.block).succs c.block_succs-succs.result.now c.loop-k.k c.index-succs-k.result c.loop-k-test.true
    c.index-succs-k.is c.block_succs-succs.ensures in
    let here : done_at c.args.is_done.now (slice_index (block_at f c.args.block).succs c.loop-k.k) ≡ false = rw at at c.if-is_done-index-2.false in
    record {
      last = c.loop-k.invariant.last;
      low = omega (arith, c.loop-k-test.true, c.loop-k.invariant.last);
      open_so_far = below_more _ _ c.loop-k.invariant.open_so_far here;
    }

pub returns : goal.returns
returns g c = record {
  here = rw c.index.ensures at c.if-is_done-index.false;
  succs = λ k less. c.loop-k.invariant.open_so_far k (omega (arith, less, c.loop-k-test.false, c.loop-k.invariant.last));
}
