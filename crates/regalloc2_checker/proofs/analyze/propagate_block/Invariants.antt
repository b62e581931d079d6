use Rattle.regalloc2_checker.proofs.analyze.propagate_block.Given as goal

abbrev pub ghost-transfer_block : goal.ghost-transfer_block
ghost-transfer_block g a = g.o

abbrev pub ghost-propagate_edges : goal.ghost-propagate_edges
ghost-propagate_edges g a = g.o
