use Rattle.regalloc2_function.specs.FunctionValue.{FunctionValue}
use Rattle.regalloc2_analysis.proofs.BranchDefsLemmas.UseNotes.{are_used}
use Rattle.regalloc2_analysis.proofs.branch_defs.uses.note_uses.Goals as goal

pub returns : goal.returns
returns g c =
    let f : FunctionValue = g.F.Function.function c.args.f.now in
    are_used f c.requires.well_formed c.args.sites.now c.requires.sites c.args.used.now c.note_all_reads.new.used c.note_all_passed.new.used c.requires.room
    c.note_all_reads.auto.used c.requires.none c.note_all_reads.ensures c.note_all_passed.ensures
