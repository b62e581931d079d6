use Rattle.regalloc2_function.specs.FunctionValue.{inst_at}
use Rattle.regalloc2_function.specs.Views.{machine_of}
use Rattle.regalloc2_fastalloc_state.proofs.ValidateLemmas.ConstraintTests.{sound_reuses, valid_else}
use Rattle.regalloc2_fastalloc_state.proofs.validate.constraints.has_valid_reuses.Goals as goal

pub returns-then-all_reuses_valid : goal.returns-then-all_reuses_valid
returns-then-all_reuses_valid g c =
    sound_reuses (machine_of c.args.env.now) (inst_at (g.F.Function.function c.args.f.now) c.args.inst) c.inst_operands-operands.result.now c.are_apart.result
    c.inst_operands-operands.ensures
    (c.all_reuses_valid.ensures.0 c.if-all_reuses_valid.true) c.are_apart.ensures

pub returns-else-all_reuses_valid : goal.returns-else-all_reuses_valid
returns-else-all_reuses_valid g c =
    valid_else (machine_of c.args.env.now) (inst_at (g.F.Function.function c.args.f.now) c.args.inst) c.inst_operands-operands.result.now
    c.all_reuses_valid.result c.inst_operands-operands.ensures
    c.if-all_reuses_valid.false c.all_reuses_valid.ensures
