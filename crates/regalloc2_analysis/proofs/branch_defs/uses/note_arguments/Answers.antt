use Rattle.regalloc2_analysis.proofs.BranchDefsLemmas.UseNotes.{arguments_more}
use Rattle.regalloc2_analysis.proofs.branch_defs.uses.note_arguments.Goals as goal

pub loop-j-preserved : goal.loop-j-preserved
loop-j-preserved c =
    arguments_more c.args.sites.now c.args.inst c.args.arguments.now c.loop-j.j c.index-arguments-j.result c.args.used.now c.loop-j.used
    c.note_argument.new.used c.loop-j-test.true c.index-arguments-j.is c.loop-j.auto.used c.loop-j.invariant c.note_argument.ensures
