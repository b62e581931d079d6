use Rattle.std.proofs.Common.{ℕ, ◌≡◌, ◌<◌, ◌++◌}
use Rattle.regalloc2_function.specs.Numbers.{ListsMembers, times_listed}
use Rattle.regalloc2_checker_sets.proofs.sets.has_no_other.Given as goal

abbrev pub invariant-loop-member : goal.invariant-loop-member
invariant-loop-member g l = record {
  all : ListsMembers l.set (l.yielded ++ l.member-iterator);
  one : (y : ℕ) → 0 < times_listed l.yielded y → y < 4294967296 → y ≡ l.only;
}
