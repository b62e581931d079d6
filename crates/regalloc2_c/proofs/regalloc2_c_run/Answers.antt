use Rattle.regalloc2_c.proofs.regalloc2_c_run.Goals as goal

pub returns-clause-outcome : goal.returns-clause-outcome
returns-clause-outcome c = (c.tested_of_words.result, c.tested_of_words.ensures, c.hand_out.ensures.handed)
