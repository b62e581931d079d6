use Rattle.std.proofs.Common.{ℕ, ◌<◌}
use Rattle.regalloc2_names.specs.Packing.{IsOperandBits}
use Rattle.regalloc2_serialize.specs.Flat.Columns.Value.{long_at}
use Rattle.regalloc2_serialize.proofs.flat.columns.sound.are_operand_words.Given as goal

abbrev pub invariant-loop-k : goal.invariant-loop-k
invariant-loop-k l = (j : ℕ) → j < l.k → IsOperandBits (long_at l.words j)
