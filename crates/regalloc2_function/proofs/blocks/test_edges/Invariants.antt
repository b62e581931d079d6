use Rattle.std.proofs.Common.{ℕ, ◌≡◌, ◌<◌, length}
use Rattle.regalloc2_function.specs.FunctionValue.{block_at}
use Rattle.regalloc2_function.specs.WellFormed.{NotCriticalAt}
use Rattle.regalloc2_function.proofs.blocks.test_edges.Given as goal

abbrev pub invariant-loop-b : goal.invariant-loop-b
invariant-loop-b g l = record {
  within : l.b-end ≡ length (g.F.Function.function l.f).blocks;
  so_far : (n : ℕ) → n < l.b → NotCriticalAt (g.F.Function.function l.f) n (block_at (g.F.Function.function l.f) n);
}
