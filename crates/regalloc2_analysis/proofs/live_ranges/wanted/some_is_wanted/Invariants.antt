use Rattle.std.proofs.Common.{ℕ, ◌≡◌, ◌<◌, false, slice_index_or}
use Rattle.regalloc2_function.specs.FunctionValue.{op_at}
use Rattle.regalloc2_analysis.proofs.live_ranges.wanted.some_is_wanted.Given as goal

-- the operands so far name no requested vreg
abbrev pub invariant-loop-k : goal.invariant-loop-k
invariant-loop-k l = record { so_far : (n : ℕ) → n < l.k → slice_index_or l.wanted (op_at l.operands n).vreg.number false ≡ false }
