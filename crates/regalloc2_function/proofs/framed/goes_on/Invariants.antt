use Rattle.std.proofs.Common.{ℕ, ◌≡◌, ◌<◌, ◌≤◌, false}
use Rattle.regalloc2_function.specs.FunctionValue.{inst_at}
use Rattle.regalloc2_function.proofs.framed.goes_on.Given as goal

-- the instructions so far go on
abbrev pub invariant-loop-i : goal.invariant-loop-i
invariant-loop-i g l = (j : ℕ) → l.first ≤ j → j < l.i → ((inst_at (g.F.Function.function l.f) j).is_branch ≡ false)
    × ((inst_at (g.F.Function.function l.f) j).is_ret ≡ false)
