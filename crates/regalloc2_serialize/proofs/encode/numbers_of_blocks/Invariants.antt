use Rattle.std.proofs.Common.{◌≡◌, take}
use Rattle.regalloc2_serialize.proofs.encode.numbers_of_blocks.Given as goal

abbrev pub invariant-loop-block : goal.invariant-loop-block
invariant-loop-block g l = l.numbers.items ≡ take l.block-index l.blocks
