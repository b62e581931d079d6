use Rattle.std.proofs.Common.{◌≡◌, map, length}
use Rattle.std.specs.List.{range_with_len}
use Rattle.regalloc2_function.specs.FunctionValue.{block_at}
use Rattle.regalloc2_serialize.specs.CopyOfFunction.{shown_block}
use Rattle.regalloc2_serialize.specs.TableFunction.Table.{block_of_table}
use Rattle.regalloc2_serialize.proofs.from_function.copied_blocks.Given as goal

abbrev pub invariant-loop-block : goal.invariant-loop-block
invariant-loop-block g l = record {
  blocks : map block_of_table l.tables.items ≡ map (λ b. shown_block (block_at (g.F.Function.function l.f) b)) (range_with_len 0 l.block);
  count : length l.tables.items ≡ l.block;
}
