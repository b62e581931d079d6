use Rattle.std.proofs.Common.{◌≡◌, ◌<◌, length, map, take}
use Rattle.std.specs.Prelude.{All}
use Rattle.regalloc2_serialize.specs.TableFunction.Table.{block_of_table}
use Rattle.regalloc2_serialize.specs.TableFunction.Built.{edges_to}
use Rattle.regalloc2_serialize.specs.TableFunction.Steps.{HasPreds, succs_at}
use Rattle.regalloc2_serialize.proofs.table_function.builder.link_one.Given as goal

-- the first successors have the block as a predecessor
abbrev pub invariant-loop-k : goal.invariant-loop-k
invariant-loop-k g l = record {
  linked : HasPreds (map block_of_table l.initial.blocks.items)
      (λ b. edges_to b l.pred (take l.k (succs_at (map block_of_table l.initial.blocks.items) l.pred)))
      (map block_of_table l.blocks.items);
  within : All (λ s. s < length l.initial.blocks.items) (take l.k (succs_at (map block_of_table l.initial.blocks.items) l.pred));
  all : l.k-end ≡ length (succs_at (map block_of_table l.initial.blocks.items) l.pred);
}
