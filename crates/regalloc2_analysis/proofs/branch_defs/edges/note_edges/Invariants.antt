use Rattle.std.proofs.Common.{◌≡◌, length}
use Rattle.regalloc2_analysis.specs.BranchDefs.Tables.{AreEdges}
use Rattle.regalloc2_analysis.proofs.branch_defs.edges.note_edges.Given as goal

-- the edges out of the blocks so far are noted
abbrev pub invariant-loop-b : goal.invariant-loop-b
invariant-loop-b g l = record {
  within : l.b-end ≡ length (g.F.Function.function l.f).blocks;
  noted : AreEdges (g.F.Function.function l.f) l.b l.edges l.stored.items;
}
