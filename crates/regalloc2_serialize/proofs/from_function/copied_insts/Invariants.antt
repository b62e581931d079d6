use Rattle.std.proofs.Common.{◌≡◌, map, length}
use Rattle.std.specs.List.{range_with_len}
use Rattle.regalloc2_function.specs.FunctionValue.{inst_at}
use Rattle.regalloc2_serialize.specs.CopyOfFunction.{shown_inst}
use Rattle.regalloc2_serialize.specs.TableFunction.Table.{inst_of_table}
use Rattle.regalloc2_serialize.proofs.from_function.copied_insts.Given as goal

abbrev pub invariant-loop-inst : goal.invariant-loop-inst
invariant-loop-inst g l = record {
  insts : map inst_of_table l.tables.items ≡ map (λ i. shown_inst (inst_at (g.F.Function.function l.f) i)) (range_with_len 0 l.inst);
  count : length l.tables.items ≡ l.inst;
}
