use Rattle.std.proofs.Common.{◌≡◌, length}
use Rattle.regalloc2_analysis.specs.BranchDefs.Notes.{ReadsIn}
use Rattle.regalloc2_function.specs.Inside.MarkedNumbers.{Marks}
use Rattle.regalloc2_analysis.proofs.branch_defs.uses.note_all_reads.Given as goal

-- what the instructions so far read is marked
abbrev pub invariant-loop-i : goal.invariant-loop-i
invariant-loop-i g l = record {
  within : l.i-end ≡ length (g.F.Function.function l.f).insts;
  marked : Marks (ReadsIn (g.F.Function.function l.f) l.i) l.initial.used l.used;
}
