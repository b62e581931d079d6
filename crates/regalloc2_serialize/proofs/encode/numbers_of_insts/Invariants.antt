use Rattle.std.proofs.Common.{map, take}
use Rattle.std.specs.List.{AllZip}
use Rattle.std.specs.Prelude.{All}
use Rattle.regalloc2_serialize.specs.Decoded.{NamesInst}
use Rattle.regalloc2_serialize.specs.Validity.{NamesOperands}
use Rattle.regalloc2_serialize.specs.TableFunction.Table.{inst_of_table}
use Rattle.regalloc2_serialize.proofs.encode.numbers_of_insts.Given as goal

abbrev pub invariant-loop-inst : goal.invariant-loop-inst
invariant-loop-inst g l = record {
  same : AllZip (λ x i. NamesInst x i) l.numbers.items (take l.inst-index (map inst_of_table l.insts));
  names : All (λ x. NamesOperands x) l.numbers.items;
}
