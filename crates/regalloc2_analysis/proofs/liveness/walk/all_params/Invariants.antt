use Rattle.std.proofs.Common.{◌≡◌, length}
use Rattle.regalloc2_analysis.specs.Liveness.BlockWalk.{AreParameters}
use Rattle.regalloc2_analysis.proofs.liveness.walk.all_params.Given as goal

-- the parameters of the blocks so far are noted
abbrev pub invariant-loop-b : goal.invariant-loop-b
invariant-loop-b g l = record {
  end : l.b-end ≡ length (g.F.Function.function l.f).blocks;
  so_far : AreParameters (g.F.Function.function l.f) l.b l.params;
}
