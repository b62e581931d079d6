use Rattle.std.proofs.Common.{◌≡◌, map, take}
use Rattle.std.specs.Prelude.{All}
use Rattle.regalloc2_names.specs.Packing.{IsVRegBits, vreg_of_bits}
use Rattle.regalloc2_serialize.proofs.encode.words_of_vregs.Given as goal

abbrev pub invariant-loop-vreg : goal.invariant-loop-vreg
invariant-loop-vreg g l = record {
  same : map vreg_of_bits l.words.items ≡ take l.vreg-index l.vregs;
  names : All IsVRegBits l.words.items;
}
