use Rattle.std.proofs.Common.{◌≡◌, length}
use Rattle.regalloc2_function.specs.FunctionValue.{block_at}
use Rattle.regalloc2_analysis.specs.Liveness.BlockWalk.{PassesNeeds}
use Rattle.regalloc2_analysis.proofs.liveness.walk.ask_passed.Given as goal

-- the upward-exposed uses at the successors so far are listed
abbrev pub invariant-loop-k : goal.invariant-loop-k
invariant-loop-k g l = record {
  end : l.k-end ≡ length (block_at (g.F.Function.function l.f) l.block).succs;
  so_far : PassesNeeds (g.F.Function.function l.f) l.block l.k l.written l.fn.needs l.needs;
}
