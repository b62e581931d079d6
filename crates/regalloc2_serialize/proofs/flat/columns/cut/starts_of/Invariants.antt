use Rattle.std.proofs.Common.{◌≡◌, ℕ, ◌*◌, ◌≤◌, ◌^◌, take, sum, length}
use Rattle.std.specs.Prelude.{slice_index}
use Rattle.regalloc2_serialize.proofs.flat.columns.cut.starts_of.Given as goal

abbrev pub invariant-loop-k : goal.invariant-loop-k
invariant-loop-k l = record {
  long : length l.starts ≡ 20;
  sums : (j : ℕ) → j ≤ l.k → slice_index l.starts j ≡ sum (take j l.widths);
  small : slice_index l.starts l.k ≤ l.k * 2 ^ 35;
}
