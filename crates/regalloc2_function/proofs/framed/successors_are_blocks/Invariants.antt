use Rattle.std.proofs.Common.{ℕ, ◌≡◌, ◌<◌, length}
use Rattle.std.specs.Prelude.{All}
use Rattle.regalloc2_function.specs.FunctionValue.{block_at}
use Rattle.regalloc2_function.proofs.framed.successors_are_blocks.Given as goal

-- the blocks so far pass
abbrev pub invariant-loop-b : goal.invariant-loop-b
invariant-loop-b g l = record {
  whole : l.blocks ≡ length (g.F.Function.function l.f).blocks;
  within : l.b-end ≡ l.blocks;
  entry : (g.F.Function.function l.f).entry < l.blocks;
  so_far : (n : ℕ) → n < l.b → All (λ s. s < length (g.F.Function.function l.f).blocks) (block_at (g.F.Function.function l.f) n).succs;
}
