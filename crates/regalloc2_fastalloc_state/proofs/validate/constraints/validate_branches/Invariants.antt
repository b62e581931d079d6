use Rattle.std.proofs.Common.{ℕ, ◌≡◌, ◌<◌, length}
use Rattle.regalloc2_function.specs.FunctionValue.{inst_at}
use Rattle.regalloc2_function.specs.WellFormed.{BranchDefinesInPlace}
use Rattle.regalloc2_fastalloc_state.proofs.validate.constraints.validate_branches.Given as goal

-- the instructions so far pass
abbrev pub invariant-loop-i : goal.invariant-loop-i
invariant-loop-i g l = record {
  within : l.i-end ≡ length (g.F.Function.function l.f).insts;
  so_far : (n : ℕ) → n < l.i → BranchDefinesInPlace (inst_at (g.F.Function.function l.f) n);
}
