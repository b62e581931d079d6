use Rattle.std.proofs.Common.{◌≡◌, map, take}
use Rattle.regalloc2_function.specs.FunctionValue.{label_of}
use Rattle.regalloc2_serialize.specs.Decoded.{stored_label}
use Rattle.regalloc2_serialize.proofs.decode.labels_from.Given as goal

abbrev pub invariant-loop-label : goal.invariant-loop-label
invariant-loop-label g l = map label_of l.named.items ≡ map stored_label (take l.label-index l.labels)
