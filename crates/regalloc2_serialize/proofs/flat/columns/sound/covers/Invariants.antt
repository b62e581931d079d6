use Rattle.std.proofs.Common.{◌≡◌, ℕ, ◌+◌, ◌<◌, ◌≤◌, ◌∷◌}
use Rattle.std.specs.Prelude.{slice_index}
use Rattle.regalloc2_serialize.proofs.flat.columns.sound.covers.Given as goal

abbrev pub invariant-loop-end : goal.invariant-loop-end
invariant-loop-end l = record {
  rises : (k : ℕ) → k < l.end-index → slice_index (0 ∷ l.ends) k ≤ slice_index (0 ∷ l.ends) (k + 1);
  at : l.at ≡ slice_index (0 ∷ l.ends) l.end-index;
}
