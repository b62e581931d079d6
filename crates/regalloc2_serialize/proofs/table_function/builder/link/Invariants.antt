use Rattle.std.proofs.Common.{◌≡◌, ℕ, ◌<◌, ◌++◌, length, map, drop}
use Rattle.std.specs.Prelude.{All}
use Rattle.regalloc2_serialize.specs.TableFunction.Table.{block_of_table}
use Rattle.regalloc2_serialize.specs.TableFunction.Built.{preds_from, without_preds}
use Rattle.regalloc2_serialize.specs.TableFunction.Steps.{preds_at, succs_at}
use Rattle.regalloc2_serialize.proofs.table_function.builder.link.Given as goal

-- the first blocks are linked, and the others give what predecessors lack
abbrev pub invariant-loop-number : goal.invariant-loop-number
invariant-loop-number g l = record {
  others : map without_preds (map block_of_table l.blocks.items) ≡ map without_preds (map block_of_table l.initial.blocks.items);
  preds : (b : ℕ) → b < length l.initial.blocks.items →
      preds_at (map block_of_table l.blocks.items) b
      ++ preds_from b l.number (drop l.number (map (λ x. x.succs) (map block_of_table l.initial.blocks.items))) ≡ preds_at
      (map block_of_table l.initial.blocks.items) b ++ preds_from b 0 (map (λ x. x.succs) (map block_of_table l.initial.blocks.items));
  within : (b : ℕ) → b < l.number → All (λ s. s < length l.initial.blocks.items) (succs_at (map block_of_table l.initial.blocks.items) b);
}
