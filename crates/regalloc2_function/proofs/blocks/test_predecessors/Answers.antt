use Rattle.regalloc2_function.proofs.PredsInOrder.{order_agrees}
use Rattle.regalloc2_function.proofs.blocks.test_predecessors.Goals as goal

pub returns-then-branch-clause-ok : goal.returns-then-branch-clause-ok
returns-then-branch-clause-ok g c = order_agrees (g.F.Function.function c.args.f.now) (c.in_ok-are_in_order.ensures.0 c.if-branch.true)
