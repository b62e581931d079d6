use Rattle.std.proofs.Common.{ℕ, ◌≡◌, ◌<◌, length}
use Rattle.regalloc2_function.specs.FunctionValue.{block_at}
use Rattle.regalloc2_function.specs.WellFormed.{ArgumentsFitAt}
use Rattle.regalloc2_function.proofs.ssa.test_fit.Given as goal

-- the blocks so far pass
abbrev pub invariant-loop-b : goal.invariant-loop-b
invariant-loop-b g l = record {
  whole : l.b-end ≡ length (g.F.Function.function l.f).blocks;
  so_far : (n : ℕ) → n < l.b → ArgumentsFitAt (g.F.Function.function l.f) n (block_at (g.F.Function.function l.f) n);
}
