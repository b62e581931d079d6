use Rattle.std.proofs.Common.{◌≡◌, length}
use Rattle.regalloc2_function.specs.FunctionValue.{block_at}
use Rattle.regalloc2_analysis.proofs.liveness.search.is_passed.Given as goal

abbrev pub invariant-loop-k : goal.invariant-loop-k
invariant-loop-k g l = l.k-end ≡ length (block_at (g.F.Function.function l.f) l.block).succs
