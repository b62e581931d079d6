use Rattle.regalloc2_analysis.specs.BranchDefs.Notes.{NotesSites}
use Rattle.regalloc2_analysis.proofs.branch_defs.sites.note_sites.Given as goal

-- the operands so far are noted
abbrev pub invariant-loop-index : goal.invariant-loop-index
invariant-loop-index l = NotesSites l.operands l.branch l.index l.initial.sites l.sites
