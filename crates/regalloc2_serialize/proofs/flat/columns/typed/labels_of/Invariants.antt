use Rattle.std.proofs.Common.{◌≡◌, map}
use Rattle.std.specs.List.{range_with_len}
use Rattle.regalloc2_function.specs.FunctionValue.{label_of}
use Rattle.regalloc2_serialize.specs.Flat.Columns.Value.{label_at}
use Rattle.regalloc2_serialize.proofs.flat.columns.typed.labels_of.Given as goal

abbrev pub invariant-loop-k : goal.invariant-loop-k
invariant-loop-k g l = map label_of l.labels.items ≡ map (label_at l.words) (range_with_len 0 l.k)
