use Rattle.std.proofs.Common.{below_more}
use Rattle.regalloc2_function.specs.FunctionValue.{FunctionValue, inst_at}
use Rattle.std.specs.Prelude.{All}
use Rattle.regalloc2_function.specs.WellFormed.{AreUnlimited, BranchDefinesInPlace}
use Rattle.regalloc2_fastalloc_state.specs.Validate.NoLimits.{IsTakenOperand}
use Rattle.regalloc2_fastalloc_state.proofs.validate.constraints.all_pass_operand_tests.Goals as goal

pub loop-i-preserved : goal.loop-i-preserved
loop-i-preserved g c =
    let f : FunctionValue = g.F.Function.function c.args.f.now in
    record {
      within = c.loop-i.invariant.within;
      unlimited = below_more (λ n. AreUnlimited (inst_at f n)) _ c.loop-i.invariant.unlimited
          (rw c.new.ensures at ((c.passes_operand_tests.ensures.passed c.if-not-passes_operand_tests.false).0));
      branches = below_more (λ n. BranchDefinesInPlace (inst_at f n)) _ c.loop-i.invariant.branches
          (rw c.new.ensures at ((c.passes_operand_tests.ensures.passed c.if-not-passes_operand_tests.false).1));
      taken = below_more (λ n. All IsTakenOperand (inst_at f n).operands) _ c.loop-i.invariant.taken
          (rw c.new.ensures at (c.passes_operand_tests.ensures.taken c.if-not-passes_operand_tests.false));
    }
