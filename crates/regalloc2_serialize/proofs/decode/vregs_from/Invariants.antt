use Rattle.std.proofs.Common.{◌≡◌, map, take}
use Rattle.regalloc2_names.specs.Packing.{vreg_of_bits}
use Rattle.regalloc2_serialize.proofs.decode.vregs_from.Given as goal

abbrev pub invariant-loop-word : goal.invariant-loop-word
invariant-loop-word g l = l.vregs.items ≡ map vreg_of_bits (take l.word-index l.words)
