use Rattle.std.proofs.Common.{◌≡◌, ◌<◌, ◌^◌, ◌++◌, map, vec_len}
use Rattle.std.specs.Vec.Iter.{into_iter_items}
use Rattle.regalloc2_serialize.specs.TableFunction.Table.{inst_of_table, block_of_table}
use Rattle.regalloc2_serialize.specs.TableFunction.Draft.{draft_of}
use Rattle.regalloc2_serialize.specs.TableFunction.Built.{blocks_from, insts_of}
use Rattle.regalloc2_serialize.proofs.table_function.builder.lay_out.Given as goal

-- the blocks that were gone over are laid out
abbrev pub invariant-loop-draft : goal.invariant-loop-draft
invariant-loop-draft g l = record {
  left : l.yielded ++ into_iter_items l.draft-iterator ≡ l.fn.drafts.items;
  blocks : map block_of_table l.blocks.items ≡ blocks_from 0 (map draft_of l.yielded);
  insts : map inst_of_table l.insts.items ≡ insts_of (map draft_of l.yielded);
  few : vec_len l.insts < 2 ^ 30;
}
