use Rattle.regalloc2_fastalloc_state.proofs.validate.constraints.has_no_limit.Goals as goal

pub inst_operands-requires : goal.inst_operands-requires
inst_operands-requires g c = c.requires

pub returns-clause-unlimited : goal.returns-clause-unlimited
returns-clause-unlimited g c = rw c.inst_operands.ensures at c.all_unlimited.ensures.unlimited

pub returns-clause-taken : goal.returns-clause-taken
returns-clause-taken g c passes = rw c.inst_operands.ensures at (c.all_unlimited.ensures.taken.0 passes)
