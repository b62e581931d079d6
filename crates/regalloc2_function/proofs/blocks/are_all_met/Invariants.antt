use Rattle.std.proofs.Common.{ℕ, ◌≡◌, ◌<◌, get_or, length}
use Rattle.regalloc2_function.specs.FunctionValue.{block_at}
use Rattle.regalloc2_function.proofs.blocks.are_all_met.Given as goal

-- the counts so far are the lengths of the lists
abbrev pub invariant-loop-b : goal.invariant-loop-b
invariant-loop-b g l = record {
  whole : l.b-end ≡ length (g.F.Function.function l.f).blocks;
  so_far : (n : ℕ) → n < l.b → get_or l.counts n 0 ≡ length (block_at (g.F.Function.function l.f) n).preds;
}
