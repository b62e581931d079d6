use Rattle.std.proofs.Common.{ℕ, ◌≡◌, ◌<◌, length}
use Rattle.std.specs.Prelude.{All}
use Rattle.regalloc2_function.specs.FunctionValue.{block_at}
use Rattle.regalloc2_function.proofs.TableLengths.{ReachedInBlocks}
use Rattle.regalloc2_function.proofs.table_length.above_blocks.Given as goal

-- the bound is above the parameters of the blocks so far
abbrev pub invariant-loop-b : goal.invariant-loop-b
invariant-loop-b g l = record {
  whole : l.b-end ≡ length (g.F.Function.function l.f).blocks;
  above : (b : ℕ) → b < l.b → All (λ v. v.number < l.above) (block_at (g.F.Function.function l.f) b).params;
  near : ReachedInBlocks (g.F.Function.function l.f) l.above;
}
