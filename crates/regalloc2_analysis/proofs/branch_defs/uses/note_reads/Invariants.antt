use Rattle.regalloc2_analysis.specs.BranchDefs.Notes.{ReadsAmong}
use Rattle.regalloc2_function.specs.Inside.MarkedNumbers.{Marks}
use Rattle.regalloc2_analysis.proofs.branch_defs.uses.note_reads.Given as goal

-- what the operands so far read is marked
abbrev pub invariant-loop-k : goal.invariant-loop-k
invariant-loop-k l = Marks (ReadsAmong l.operands l.k) l.initial.used l.used
