use Rattle.regalloc2_checker.proofs.sweep.finish.Given as goal

abbrev pub ghost-check_block : goal.ghost-check_block
ghost-check_block g a = g.o
