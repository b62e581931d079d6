use Rattle.std.proofs.Common.{ℕ, ◌≡◌, ◌*◌, ◌-◌, ◌<◌, ◌≤◌, length}
use Rattle.regalloc2_checker_sets.specs.SavedNumbers.{copy_count, saved_number, number_now}
use Rattle.regalloc2_checker_sets.proofs.entries.Entries.write_copy.Given as goal

-- below a chunk the array has what the saved copy has
abbrev pub invariant-loop-chunk : goal.invariant-loop-chunk
invariant-loop-chunk g l = record {
  count : copy_count l.to ≡ copy_count l.fn.to;
  saved : (k i : ℕ) → saved_number l.to k i ≡ saved_number l.fn.to k i;
  long : length l.to.cells ≡ length l.fn.to.cells;
  written : (i : ℕ) → i < 64 * l.from → i < length l.self.cells → number_now l.to i ≡ saved_number l.self l.copy i;
  rest : (i : ℕ) → 64 * l.from ≤ i → i < length l.self.cells → number_now l.to i ≡ number_now l.self i;
}

abbrev pub decreases-loop-chunk : goal.decreases-loop-chunk
decreases-loop-chunk g l = length l.self.cells - l.from
