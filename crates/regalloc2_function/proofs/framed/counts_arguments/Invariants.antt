use Rattle.std.proofs.Common.{ℕ, ◌≡◌, [], ◌<◌, length, get_or}
use Rattle.regalloc2_function.specs.FunctionValue.{block_at}
use Rattle.regalloc2_function.proofs.framed.counts_arguments.Given as goal

-- the successors so far are given as many
abbrev pub invariant-loop-k : goal.invariant-loop-k
invariant-loop-k g l = (j : ℕ) → j < l.k → length (get_or (block_at (g.F.Function.function l.f) l.block).arguments j []) ≡ length
    (block_at (g.F.Function.function l.f) (get_or (block_at (g.F.Function.function l.f) l.block).succs j 0)).params
