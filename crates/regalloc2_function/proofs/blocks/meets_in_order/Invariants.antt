use Rattle.regalloc2_function.proofs.PredsInOrder.{MetInPart}
use Rattle.regalloc2_function.proofs.blocks.meets_in_order.Given as goal

-- the positions so far were met
abbrev pub invariant-loop-succ : goal.invariant-loop-succ
invariant-loop-succ g l = MetInPart (g.F.Function.function l.f) l.block l.succ-index l.counts
