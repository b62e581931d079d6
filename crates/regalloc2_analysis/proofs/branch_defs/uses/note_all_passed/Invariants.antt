use Rattle.std.proofs.Common.{◌≡◌, length}
use Rattle.regalloc2_analysis.specs.BranchDefs.Notes.{PassesIn}
use Rattle.regalloc2_function.specs.Inside.MarkedNumbers.{Marks}
use Rattle.regalloc2_analysis.proofs.branch_defs.uses.note_all_passed.Given as goal

-- what the blocks so far pass is marked
abbrev pub invariant-loop-b : goal.invariant-loop-b
invariant-loop-b g l = record {
  within : l.b-end ≡ length (g.F.Function.function l.f).blocks;
  marked : Marks (PassesIn (g.F.Function.function l.f) l.sites l.b) l.initial.used l.used;
}
