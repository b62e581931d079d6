use Rattle.std.proofs.Common.{◌≡◌, map, take}
use Rattle.regalloc2_names.specs.Packing.{register_of_bits}
use Rattle.regalloc2_serialize.proofs.flat.columns.typed.registers_of.Given as goal

abbrev pub invariant-loop-word : goal.invariant-loop-word
invariant-loop-word g l = l.registers.items ≡ map register_of_bits (take l.word-index l.words)
