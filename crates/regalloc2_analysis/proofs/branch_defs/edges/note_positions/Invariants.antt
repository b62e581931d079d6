use Rattle.std.proofs.Common.{◌≡◌, length}
use Rattle.regalloc2_analysis.specs.BranchDefs.Notes.{NotesEdges}
use Rattle.regalloc2_analysis.proofs.branch_defs.edges.note_positions.Given as goal

-- the positions so far are noted
abbrev pub invariant-loop-position : goal.invariant-loop-position
invariant-loop-position l = record {
  long : length l.edges ≡ length l.initial.edges;
  noted : NotesEdges l.succs l.edge l.position l.initial.edges l.edges;
}
