use Rattle.std.proofs.Common.{ℕ, ◌<◌}
use Rattle.regalloc2_fastalloc_state.specs.Validate.Constraints.{DefinesInPlace}
use Rattle.regalloc2_function.specs.FunctionValue.{op_at}
use Rattle.regalloc2_fastalloc_state.proofs.validate.constraints.all_define_in_place.Given as goal

abbrev pub invariant-loop-k : goal.invariant-loop-k
invariant-loop-k l = record { so_far : (n : ℕ) → n < l.k → DefinesInPlace (op_at l.operands n) }
