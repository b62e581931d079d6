use Rattle.std.proofs.Common.{◌≡◌, length, map, take}
use Rattle.std.specs.List.{AllZip}
use Rattle.regalloc2_serialize.specs.Decoded.{NamesInst}
use Rattle.regalloc2_serialize.specs.TableFunction.Table.{inst_of_table}
use Rattle.regalloc2_serialize.proofs.decode.insts_from.Given as goal

abbrev pub invariant-loop-inst : goal.invariant-loop-inst
invariant-loop-inst g l = record {
  pairs : AllZip (λ s i. NamesInst s i) (take l.inst-index l.stored) (map inst_of_table l.insts.items);
  count : length l.insts.items ≡ l.inst-index;
}
