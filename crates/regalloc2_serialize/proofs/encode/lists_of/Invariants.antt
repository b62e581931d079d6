use Rattle.std.proofs.Common.{take}
use Rattle.regalloc2_serialize.specs.Encoded.{AreBlockLists}
use Rattle.regalloc2_serialize.proofs.encode.lists_of.Given as goal

abbrev pub invariant-loop-block : goal.invariant-loop-block
invariant-loop-block g l = AreBlockLists l.lists (take l.block-index l.blocks)
