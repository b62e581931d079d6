use Rattle.std.proofs.Common.{ℕ, ◌≡◌, ◌<◌, length}
use Rattle.regalloc2_function.specs.FunctionValue.{inst_at}
use Rattle.std.specs.Prelude.{All}
use Rattle.regalloc2_function.specs.WellFormed.{AreUnlimited, BranchDefinesInPlace}
use Rattle.regalloc2_fastalloc_state.specs.Validate.NoLimits.{IsTakenOperand}
use Rattle.regalloc2_fastalloc_state.proofs.validate.constraints.all_pass_operand_tests.Given as goal

-- the instructions so far pass
abbrev pub invariant-loop-i : goal.invariant-loop-i
invariant-loop-i g l = record {
  within : l.i-end ≡ length (g.F.Function.function l.f).insts;
  unlimited : (n : ℕ) → n < l.i → AreUnlimited (inst_at (g.F.Function.function l.f) n);
  branches : (n : ℕ) → n < l.i → BranchDefinesInPlace (inst_at (g.F.Function.function l.f) n);
  taken : (n : ℕ) → n < l.i → All IsTakenOperand (inst_at (g.F.Function.function l.f) n).operands;
}
