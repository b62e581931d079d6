use Rattle.std.proofs.Common.{sym}
use Rattle.regalloc2_analysis.proofs.liveness.search.is_read.Goals as goal

pub returns-then-reads : goal.returns-then-reads
returns-then-reads c = λ yes.
    (c.loop-operand.operand-index, c.operand-item.result, c.loop-operand-test.true, sym c.operand-item.is, c.reads.ensures.0 c.if-reads.true)
