use Rattle.std.proofs.Common.{◌≡◌, map, take}
use Rattle.std.specs.Prelude.{All}
use Rattle.regalloc2_names.specs.Packing.{IsVRegBits}
use Rattle.regalloc2_function.specs.FunctionValue.{label_of}
use Rattle.regalloc2_serialize.specs.Decoded.{stored_label}
use Rattle.regalloc2_serialize.proofs.encode.numbers_of_labels.Given as goal

abbrev pub invariant-loop-label : goal.invariant-loop-label
invariant-loop-label g l = record {
  same : map stored_label l.numbers.items ≡ map label_of (take l.label-index l.labels);
  names : All (λ n. IsVRegBits n.0) l.numbers.items;
}
