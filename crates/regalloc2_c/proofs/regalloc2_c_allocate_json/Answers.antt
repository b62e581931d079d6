use Rattle.regalloc2_c.proofs.regalloc2_c_allocate_json.Goals as goal

pub returns-clause-outcome : goal.returns-clause-outcome
returns-clause-outcome c = (c.allocated_of_json.result, c.allocated_of_json.ensures, c.hand_out.ensures.handed)
