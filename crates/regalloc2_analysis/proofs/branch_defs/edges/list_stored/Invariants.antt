use Rattle.regalloc2_analysis.specs.BranchDefs.Notes.{ListsStored}
use Rattle.regalloc2_analysis.proofs.branch_defs.edges.list_stored.Given as goal

-- the operands so far are listed
abbrev pub invariant-loop-k : goal.invariant-loop-k
invariant-loop-k g l = ListsStored l.used l.operands l.k l.initial.stored.items l.stored.items
