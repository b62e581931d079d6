use Rattle.std.specs.Prelude.{All}
use Rattle.regalloc2_analysis.specs.Liveness.Search.{LeadsBack}
use Rattle.regalloc2_analysis.proofs.liveness.search.add_succs.Given as goal

-- what was added so far leads back
abbrev pub invariant-loop-succ : goal.invariant-loop-succ
invariant-loop-succ g l = record {
  near : All (LeadsBack (g.F.Function.function l.f) l.vreg) l.near.items;
  far : All (LeadsBack (g.F.Function.function l.f) l.vreg) l.far.items;
}
