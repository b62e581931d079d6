use Rattle.std.proofs.Common.{ℕ, ◌≡◌, ◌<◌, ◌++◌, true}
use Rattle.regalloc2_function.specs.Numbers.{ListsMembers, times_listed}
use Rattle.regalloc2_checker_sets.specs.EntrySets.{has_bits}
use Rattle.regalloc2_checker_sets.proofs.kept_set.is_part.Given as goal

abbrev pub invariant-loop-member : goal.invariant-loop-member
invariant-loop-member g l = record {
  all : ListsMembers l.set (l.yielded ++ l.member-iterator);
  there : (y : ℕ) → 0 < times_listed l.yielded y → y < 4294967296 → has_bits l.other y ≡ true;
}
