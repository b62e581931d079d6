use Rattle.std.proofs.Common.{ℕ, ◌<◌, ◌*◌}
use Rattle.std.specs.Prelude.{slice_index}
use Rattle.regalloc2_names.specs.Packing.{IsVRegBits}
use Rattle.regalloc2_serialize.proofs.flat.columns.sound.are_labels_of_vregs.Given as goal

abbrev pub invariant-loop-k : goal.invariant-loop-k
invariant-loop-k l = (j : ℕ) → j < l.k → IsVRegBits (slice_index l.words (4 * j))
