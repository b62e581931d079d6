use Rattle.std.proofs.Common.{ℕ, ◌≡◌, ◌<◌, []}
use Rattle.regalloc2_function.specs.FunctionValue.{block_at}
use Rattle.regalloc2_semantics.specs.Sound.{target_at}
use Rattle.regalloc2_fastalloc_walk.proofs.branch.passes_nothing.Given as goal

abbrev pub invariant-loop-k : goal.invariant-loop-k
invariant-loop-k g l =
    (j : ℕ) → j < l.k → (block_at (g.F.Function.function l.f) (target_at (g.F.Function.function l.f) l.fn.block j)).params ≡ []
