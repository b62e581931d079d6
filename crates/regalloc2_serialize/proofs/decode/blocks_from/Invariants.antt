use Rattle.std.proofs.Common.{◌≡◌, take}
use Rattle.regalloc2_serialize.proofs.decode.blocks_from.Given as goal

abbrev pub invariant-loop-word : goal.invariant-loop-word
invariant-loop-word g l = l.blocks.items ≡ take l.word-index l.words
