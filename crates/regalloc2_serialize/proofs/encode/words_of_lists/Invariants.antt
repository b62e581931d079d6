use Rattle.std.proofs.Common.{◌≡◌, map, take}
use Rattle.std.specs.Prelude.{All}
use Rattle.regalloc2_names.specs.Packing.{IsVRegBits, vreg_of_bits}
use Rattle.regalloc2_serialize.proofs.encode.words_of_lists.Given as goal

abbrev pub invariant-loop-list : goal.invariant-loop-list
invariant-loop-list g l = record {
  same : map (λ v. map vreg_of_bits v.items) l.words.items ≡ map (λ v. v.items) (take l.list-index l.lists);
  names : All (λ v. All IsVRegBits v.items) l.words.items;
}
