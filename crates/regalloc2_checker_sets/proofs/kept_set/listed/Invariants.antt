use Rattle.std.proofs.Common.{ℕ, ◌≡◌, ◌++◌, nat_lt}
use Rattle.std.specs.Prelude.{if◌then◌else◌}
use Rattle.regalloc2_function.specs.Numbers.{ListsMembers, times_listed}
use Rattle.regalloc2_checker_sets.proofs.kept_set.listed.Given as goal

abbrev pub invariant-loop-member : goal.invariant-loop-member
invariant-loop-member g l = record {
  all : ListsMembers l.set (l.yielded ++ l.member-iterator);
  members : (y : ℕ) → times_listed l.members.items y ≡ (if nat_lt y 4294967296 then times_listed l.yielded y else 0);
}
