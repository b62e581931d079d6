use Rattle.regalloc2_analysis.proofs.BranchDefsLemmas.EdgeNotes.{HasHeldAmong}
use Rattle.regalloc2_analysis.proofs.branch_defs.edges.held_by.Given as goal

-- the registers of the operands so far
abbrev pub invariant-loop-k : goal.invariant-loop-k
invariant-loop-k l = HasHeldAmong l.operands l.k l.held
