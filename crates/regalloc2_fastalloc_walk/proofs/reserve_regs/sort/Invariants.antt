use Rattle.regalloc2_fastalloc_walk.proofs.OperandsSorted.{Sorting}
use Rattle.regalloc2_fastalloc_walk.proofs.reserve_regs.sort.Given as goal

abbrev pub invariant-loop-k : goal.invariant-loop-k
invariant-loop-k l = Sorting l.operands l.k l.fn.inst_regs l.inst_regs l.masks l.union

abbrev pub decreases-loop-k : goal.decreases-loop-k
decreases-loop-k l = l.k
