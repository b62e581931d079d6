use Rattle.regalloc2_function.specs.FunctionValue.{inst_at}
use Rattle.regalloc2_function.specs.Views.{machine_of}
use Rattle.regalloc2_fastalloc_state.proofs.ValidateLemmas.ConstraintTests.{no_reuses_valid}
use Rattle.regalloc2_fastalloc_state.proofs.validate.constraints.passes_reuse_test.Goals as goal

pub returns-then-has_no_reuse : goal.returns-then-has_no_reuse
returns-then-has_no_reuse g c = (
  λ t. no_reuses_valid (machine_of c.args.env.now) (inst_at (g.F.Function.function c.args.f.now) c.args.inst) c.inst_operands.result.now
      c.inst_operands.ensures (c.has_no_reuse.ensures.0 c.if-has_no_reuse.true),
  λ h. c.if-has_no_reuse.true,
)
