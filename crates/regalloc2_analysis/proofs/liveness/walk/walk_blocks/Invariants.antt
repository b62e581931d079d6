use Rattle.std.proofs.Common.{◌≡◌, length}
use Rattle.regalloc2_analysis.specs.Liveness.BlockWalk.{AreWrites, AreAsked}
use Rattle.regalloc2_analysis.proofs.liveness.walk.walk_blocks.Given as goal

-- the blocks so far are walked over
abbrev pub invariant-loop-b : goal.invariant-loop-b
invariant-loop-b g l = record {
  end : l.b-end ≡ length (g.F.Function.function l.f).blocks;
  written : AreWrites (g.F.Function.function l.f) l.b l.written;
  asked : AreAsked (g.F.Function.function l.f) l.b l.needs;
}
