use Rattle.regalloc2_c.proofs.regalloc2_c_allocate_text.Goals as goal

pub returns-clause-outcome : goal.returns-clause-outcome
returns-clause-outcome c = (c.allocated_of_text.result, c.allocated_of_text.ensures, c.hand_out.ensures.handed)
