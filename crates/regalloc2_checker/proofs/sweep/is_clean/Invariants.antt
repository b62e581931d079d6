use Rattle.regalloc2_checker.proofs.sweep.is_clean.Given as goal

abbrev pub ghost-pass_all_on : goal.ghost-pass_all_on
ghost-pass_all_on g a = g.o
