use Rattle.regalloc2_analysis.specs.BranchDefs.Notes.{PassesAmong}
use Rattle.regalloc2_function.specs.Inside.MarkedNumbers.{Marks}
use Rattle.regalloc2_analysis.proofs.branch_defs.uses.note_arguments.Given as goal

-- the arguments so far that the instruction doesn't define are marked
abbrev pub invariant-loop-j : goal.invariant-loop-j
invariant-loop-j l = Marks (PassesAmong l.sites l.inst l.arguments l.j) l.initial.used l.used
