use Rattle.std.proofs.Common.{take}
use Rattle.std.specs.List.{AllZip}
use Rattle.std.specs.Prelude.{All}
use Rattle.regalloc2_names.specs.Packing.{IsRegisterIndex}
use Rattle.regalloc2_serialize.specs.Decoded.{HasIndexes}
use Rattle.regalloc2_serialize.proofs.encode.lists_of_indexes.Given as goal

abbrev pub invariant-loop-set : goal.invariant-loop-set
invariant-loop-set g l = record {
  same : AllZip (λ v set. HasIndexes v.items set) l.lists.items (take l.set-index l.sets);
  names : All (λ v. All IsRegisterIndex v.items) l.lists.items;
}
