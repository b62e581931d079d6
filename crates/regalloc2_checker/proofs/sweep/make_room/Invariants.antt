use Rattle.regalloc2_checker.proofs.sweep.make_room.Given as goal

abbrev pub ghost-finish_below : goal.ghost-finish_below
ghost-finish_below g a = g.o
