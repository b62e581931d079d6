use Rattle.std.proofs.Common.{ℕ, ◌<◌}
use Rattle.regalloc2_function.specs.WellFormed.{AvoidsClobbers, IsReused}
use Rattle.regalloc2_function.specs.FunctionValue.{op_at}
use Rattle.regalloc2_fastalloc_state.proofs.validate.constraints.all_avoid_clobbers.Given as goal

abbrev pub invariant-loop-k : goal.invariant-loop-k
invariant-loop-k l = record { so_far : (n : ℕ) → n < l.k → AvoidsClobbers l.fn.clobbers (op_at l.operands n) (IsReused l.operands n) }
