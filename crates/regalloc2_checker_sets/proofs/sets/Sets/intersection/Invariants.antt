use Rattle.std.proofs.Common.{ℕ, ◌≡◌, ◌++◌, nat_lt}
use Rattle.std.specs.Prelude.{◌&&◌}
use Rattle.regalloc2_function.specs.Numbers.{ListsMembers, times_listed}
use Rattle.regalloc2_checker_sets.specs.EntrySets.{has_bits, is_member}
use Rattle.regalloc2_checker_sets.proofs.sets.Sets.intersection.Given as goal

abbrev pub invariant-loop-member : goal.invariant-loop-member
invariant-loop-member g l = record {
  all : ListsMembers l.set (l.yielded ++ l.member-iterator);
  both : (y : ℕ) → has_bits l.both y ≡ (nat_lt 0 (times_listed l.yielded y) && is_member l.self l.other y);
}
