use Rattle.std.specs.Prelude.{All}
use Rattle.regalloc2_analysis.specs.Liveness.Search.{LeadsBack}
use Rattle.regalloc2_analysis.proofs.liveness.search.leads_on.Given as goal

-- what waits leads back
abbrev pub invariant-loop : goal.invariant-loop
invariant-loop g l = record {
  near : All (LeadsBack (g.F.Function.function l.f) l.vreg) l.near.items;
  far : All (LeadsBack (g.F.Function.function l.f) l.vreg) l.far.items;
}
