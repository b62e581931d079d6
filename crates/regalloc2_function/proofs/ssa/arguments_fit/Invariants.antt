use Rattle.std.proofs.Common.{ℕ, ◌≡◌, [], ◌<◌, get_or}
use Rattle.std.specs.Prelude.{map}
use Rattle.regalloc2_function.specs.FunctionValue.{block_at}
use Rattle.regalloc2_function.proofs.ssa.arguments_fit.Given as goal

-- the successors so far are given arguments that fit
abbrev pub invariant-loop-k : goal.invariant-loop-k
invariant-loop-k g l = (j : ℕ) → j < l.k → map (λ v. v.class) (get_or (block_at (g.F.Function.function l.f) l.block).arguments j []) ≡ map (λ v. v.class)
    (block_at (g.F.Function.function l.f) (get_or (block_at (g.F.Function.function l.f) l.block).succs j 0)).params
