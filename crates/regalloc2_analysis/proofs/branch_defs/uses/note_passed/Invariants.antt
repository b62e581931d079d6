use Rattle.std.proofs.Common.{◌≡◌, length}
use Rattle.regalloc2_function.specs.FunctionValue.{block_at}
use Rattle.regalloc2_analysis.specs.BranchDefs.Notes.{PassesOut}
use Rattle.regalloc2_function.specs.Inside.MarkedNumbers.{Marks}
use Rattle.regalloc2_analysis.proofs.branch_defs.uses.note_passed.Given as goal

-- what is passed at the edges so far is marked
abbrev pub invariant-loop-k : goal.invariant-loop-k
invariant-loop-k g l = record {
  within : l.k-end ≡ length (block_at (g.F.Function.function l.f) l.block).succs;
  marked : Marks (PassesOut (g.F.Function.function l.f) l.sites l.block l.k) l.initial.used l.used;
}
