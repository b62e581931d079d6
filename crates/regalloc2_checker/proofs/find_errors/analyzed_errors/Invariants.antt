use Rattle.regalloc2_checker.proofs.find_errors.analyzed_errors.Given as goal

abbrev pub ghost-analyze : goal.ghost-analyze
ghost-analyze g a = g.o

abbrev pub ghost-check_all : goal.ghost-check_all
ghost-check_all g a = g.o
