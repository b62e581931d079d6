use Rattle.std.proofs.Common.{ℕ, ◌≡◌, ◌<◌, get_or, length}
use Rattle.regalloc2_function.specs.FunctionValue.{block_at}
use Rattle.regalloc2_function.specs.WellFormed.{PredecessorsAt}
use Rattle.regalloc2_function.proofs.blocks.compare_ways.Given as goal

-- the blocks so far pass, and the counts are 0 again
abbrev pub invariant-loop-b : goal.invariant-loop-b
invariant-loop-b g l = record {
  whole : l.b-end ≡ length (g.F.Function.function l.f).blocks;
  zero : (n : ℕ) → get_or l.counts n 0 ≡ 0;
  so_far : (n : ℕ) → n < l.b → PredecessorsAt (g.F.Function.function l.f) n (block_at (g.F.Function.function l.f) n);
}
