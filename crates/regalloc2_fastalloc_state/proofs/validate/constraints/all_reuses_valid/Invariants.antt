use Rattle.std.proofs.Common.{ℕ, ◌≡◌, ◌<◌}
use Rattle.std.specs.Prelude.{length}
use Rattle.regalloc2_function.specs.Views.{machine_of}
use Rattle.regalloc2_function.specs.FunctionValue.{op_at}
use Rattle.regalloc2_function.specs.WellFormed.{IsSoundReuse}
use Rattle.regalloc2_fastalloc_state.proofs.validate.constraints.all_reuses_valid.Given as goal

abbrev pub invariant-loop-k : goal.invariant-loop-k
invariant-loop-k g l = record {
  within : l.k-end ≡ length l.operands;
  so_far : (n : ℕ) → n < l.k → IsSoundReuse (machine_of l.env) l.operands (op_at l.operands n);
}
