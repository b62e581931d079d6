use Rattle.std.proofs.Common.{◌≡◌, map, take}
use Rattle.regalloc2_names.specs.Packing.{register_of_bits}
use Rattle.regalloc2_serialize.proofs.decode.registers_from.Given as goal

abbrev pub invariant-loop-index : goal.invariant-loop-index
invariant-loop-index g l = l.registers.items ≡ map register_of_bits (take l.index-index l.indexes)
