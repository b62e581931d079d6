use Rattle.regalloc2_checker.proofs.find_errors.find_errors.Given as goal

abbrev pub ghost-analyzed_errors : goal.ghost-analyzed_errors
ghost-analyzed_errors g a = g.o

abbrev pub ghost-is_clean : goal.ghost-is_clean
ghost-is_clean g a = g.o
