use Rattle.regalloc2_analysis.proofs.BranchDefsLemmas.SiteNotes.{operand_noted}
use Rattle.regalloc2_analysis.proofs.branch_defs.sites.note_sites.Goals as goal

pub loop-index-preserved : goal.loop-index-preserved
loop-index-preserved c =
    operand_noted c.args.operands.now c.args.branch c.loop-index.index c.index-operands-index.result c.args.sites.now c.loop-index.sites
    c.note_site.new.sites c.loop-index-test.true c.index-operands-index.is c.note_site.ensures c.loop-index.invariant
