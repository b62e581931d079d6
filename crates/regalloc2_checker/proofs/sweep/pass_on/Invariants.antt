use Rattle.regalloc2_checker.proofs.sweep.pass_on.Given as goal

abbrev pub ghost-make_room : goal.ghost-make_room
ghost-make_room g a = g.o

abbrev pub ghost-propagate_block : goal.ghost-propagate_block
ghost-propagate_block g a = g.o
