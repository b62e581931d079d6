use Rattle.std.proofs.Common.{◌<◌, ◌≤◌, length, arith}
use Rattle.regalloc2_function.specs.FunctionValue.{FunctionValue, block_at}
use Rattle.regalloc2_function.proofs.ListsInParts.{all_more, all_taken, first_here}
use Rattle.regalloc2_function.proofs.blocks.first_fork.Goals as goal

pub returns-then-block_succs-gt1-clause-first : goal.returns-then-block_succs-gt1-clause-first
returns-then-block_succs-gt1-clause-first g c =
    let f : FunctionValue = g.F.Function.function c.args.f.now in
    first_here (λ p. length (block_at f p).succs ≤ 1) c.args.preds.now c.loop-pred.pred-index c.pred-item.result c.loop-pred-test.true c.pred-item.is
    c.loop-pred.invariant (λ h. let many : 1 < length (block_at f c.pred-item.result).succs = rw (← c.block_succs.ensures) c.if-block_succs-gt1.true in
    omega arith)

pub loop-pred-preserved : goal.loop-pred-preserved
loop-pred-preserved g c =
    let f : FunctionValue = g.F.Function.function c.args.f.now in
    all_more (λ p. length (block_at f p).succs ≤ 1) c.args.preds.now c.loop-pred.pred-index c.pred-item.result c.loop-pred-test.true c.pred-item.is
    c.loop-pred.invariant (rw (← c.block_succs.ensures) c.if-block_succs-gt1.false)

pub returns-clause-none : goal.returns-clause-none
returns-clause-none g c = all_taken (λ p. length (block_at (g.F.Function.function c.args.f.now) p).succs ≤ 1) c.args.preds.now c.loop-pred.pred-index
    (omega arith) c.loop-pred.invariant
