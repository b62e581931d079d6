use Rattle.std.proofs.Common.{ℕ, ◌<◌, ◌≤◌, length, refl, arith}
use Rattle.regalloc2_function.specs.FunctionValue.{FunctionValue, block_at}
use Rattle.regalloc2_function.specs.Reasons.{IsFirstIn}
use Rattle.regalloc2_function.proofs.ListsInParts.{first_not_all}
use Rattle.regalloc2_function.proofs.blocks.test_edges.Goals as goal

pub returns-in-Some-clause-err : goal.returns-in-Some-clause-err
returns-in-Some-clause-err g c =
    let f : FunctionValue = g.F.Function.function c.args.f.now in
    let b : ℕ = c.new-block.result in
    let less : b < length f.blocks = omega (arith, c.loop-b.invariant.within, c.new-block.ensures) in
    let fork : IsFirstIn (λ p. length (block_at f p).succs ≤ 1) (block_at f b).preds c.in-Some.pred = rw c.block_preds.ensures at c.in-Some.ensures.first in (
      b,
      c.in-Some.pred,
      refl,
      (
        less,
        λ passes. first_not_all (λ p. length (block_at f p).succs ≤ 1) (block_at f b).preds c.in-Some.pred fork
            (passes (c.is_join.ensures.0 c.if-is_join.true)),
        λ m low. c.loop-b.invariant.so_far m (omega (arith, c.new-block.ensures)),
      ),
      fork,
    )
