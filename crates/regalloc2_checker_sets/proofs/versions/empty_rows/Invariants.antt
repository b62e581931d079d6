use Rattle.std.proofs.Common.{ℕ, ◌≡◌, ◌≤◌, ◌-◌, [], length, get_or, map, vec_len}
use Rattle.regalloc2_checker_sets.proofs.versions.empty_rows.Given as goal

abbrev pub invariant-loop-alloc : goal.invariant-loop-alloc
invariant-loop-alloc g l = record {
  few : length l.rows.items ≤ l.count;
  empty : (k : ℕ) → get_or (map (λ b. b.items) l.rows.items) k [] ≡ [];
}

abbrev pub decreases-loop-alloc : goal.decreases-loop-alloc
decreases-loop-alloc g l = l.count - vec_len l.rows
