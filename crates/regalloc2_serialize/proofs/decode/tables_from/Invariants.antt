use Rattle.std.proofs.Common.{◌≡◌, map, length}
use Rattle.std.specs.List.{range_with_len}
use Rattle.regalloc2_serialize.specs.Decoded.{stored_block}
use Rattle.regalloc2_serialize.specs.TableFunction.Table.{block_of_table}
use Rattle.regalloc2_serialize.proofs.decode.tables_from.Given as goal

abbrev pub invariant-loop-block : goal.invariant-loop-block
invariant-loop-block g l = record {
  blocks : map block_of_table l.tables.items ≡ map (stored_block l.stored) (range_with_len 0 l.block);
  count : length l.tables.items ≡ l.block;
}
