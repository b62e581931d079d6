use Rattle.std.proofs.Common.{take}
use Rattle.regalloc2_serialize.specs.Decoded.{HasIndexes}
use Rattle.regalloc2_serialize.proofs.decode.set_from.Given as goal

abbrev pub invariant-loop-index : goal.invariant-loop-index
invariant-loop-index l = HasIndexes (take l.index-index l.indexes) l.set
