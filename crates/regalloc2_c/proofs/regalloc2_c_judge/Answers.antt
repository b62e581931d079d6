use Rattle.regalloc2_c.proofs.regalloc2_c_judge.Goals as goal

pub returns-clause-outcome : goal.returns-clause-outcome
returns-clause-outcome c = (c.judged_of_words.result, c.judged_of_words.ensures, c.hand_out.ensures.handed)
