use Rattle.std.proofs.Common.{ℕ, ◌<◌, get_or}
use Rattle.regalloc2_function.specs.FunctionValue.{block_at}
use Rattle.regalloc2_function.specs.WellFormed.{ways_into}
use Rattle.regalloc2_function.proofs.blocks.may_branch.Given as goal

-- no successor so far has several incoming edges
abbrev pub invariant-loop-succ : goal.invariant-loop-succ
invariant-loop-succ g l = (k : ℕ) → k < l.succ-index → 1 < ways_into (g.F.Function.function l.f)
    (get_or (block_at (g.F.Function.function l.f) l.fn.block).succs k 0) → ⊥
