use Rattle.regalloc2_serialize.proofs.from_function.copied_block.Goals as goal

pub copied_arguments-requires-clause-block : goal.copied_arguments-requires-clause-block
copied_arguments-requires-clause-block g c = c.requires.block

pub copied_arguments-requires-clause-nonempty : goal.copied_arguments-requires-clause-nonempty
copied_arguments-requires-clause-nonempty g c = c.requires.nonempty
