use Rattle.regalloc2_analysis.proofs.BranchDefsLemmas.UseNotes.{reads_more}
use Rattle.regalloc2_analysis.proofs.branch_defs.uses.note_reads.Goals as goal

pub loop-k-preserved : goal.loop-k-preserved
loop-k-preserved c =
    reads_more c.args.operands.now c.loop-k.k c.index-operands-k.result c.args.used.now c.loop-k.used c.note_read.new.used c.loop-k-test.true
    c.index-operands-k.is c.loop-k.auto.used c.loop-k.invariant c.note_read.ensures
