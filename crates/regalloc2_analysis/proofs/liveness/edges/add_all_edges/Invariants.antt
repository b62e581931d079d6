use Rattle.std.proofs.Common.{◌≡◌, length}
use Rattle.regalloc2_analysis.proofs.LivenessLemmas.EdgeLists.{HaveEdges}
use Rattle.regalloc2_analysis.proofs.liveness.edges.add_all_edges.Given as goal

-- the edges of the blocks so far are listed
abbrev pub invariant-loop-b : goal.invariant-loop-b
invariant-loop-b g l = record {
  whole : l.b-end ≡ length (g.F.Function.function l.f).blocks;
  so_far : HaveEdges (g.F.Function.function l.f) l.b l.edges;
}
