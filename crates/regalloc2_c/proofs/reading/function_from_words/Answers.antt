use Rattle.regalloc2_c.proofs.reading.function_from_words.Goals as goal

pub returns-in-Err-clause-err : goal.returns-in-Err-clause-err
returns-in-Err-clause-err c = (c.in-Err.fault, c.failure_of_columns.ensures, c.in-Err.ensures.refused)
