use Rattle.std.proofs.Common.{◌≡◌, map}
use Rattle.regalloc2_names.specs.Packing.{operand_of_bits}
use Rattle.regalloc2_serialize.specs.Flat.Columns.Value.{longs}
use Rattle.regalloc2_serialize.proofs.flat.columns.typed.operands_of.Given as goal

abbrev pub invariant-loop-k : goal.invariant-loop-k
invariant-loop-k g l = l.operands.items ≡ map operand_of_bits (longs l.words l.k)
