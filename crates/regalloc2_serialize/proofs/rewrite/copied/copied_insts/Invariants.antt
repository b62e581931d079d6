use Rattle.std.proofs.Common.{◌≡◌, ◌<◌, ◌≤◌, ◌-◌, ◌++◌, map}
use Rattle.std.specs.Prelude.{All}
use Rattle.std.specs.List.{range_with_len}
use Rattle.regalloc2_function.specs.FunctionValue.{block_at, inst_at}
use Rattle.regalloc2_serialize.specs.TableFunction.Table.{inst_of_table}
use Rattle.regalloc2_serialize.proofs.rewrite.copied.copied_insts.Given as goal

-- the copies so far, followed by copies of the instructions that the iterator has left, are the copies of the whole
-- block; the iterator has instructions of the block alone
abbrev pub invariant-loop-inst : goal.invariant-loop-inst
invariant-loop-inst g l = record {
  copied : map inst_of_table l.insts.items ++ map (inst_at (g.F.Function.function l.f)) l.inst-iterator
      ≡ map (inst_at (g.F.Function.function l.f)) (range_with_len (block_at (g.F.Function.function l.f) l.fn.block).range.first
      ((block_at (g.F.Function.function l.f) l.fn.block).range.end - (block_at (g.F.Function.function l.f) l.fn.block).range.first));
  within : All (λ i. ((block_at (g.F.Function.function l.f) l.fn.block).range.first ≤ i) × (i < (block_at (g.F.Function.function l.f) l.fn.block).range.end))
      l.inst-iterator;
}
