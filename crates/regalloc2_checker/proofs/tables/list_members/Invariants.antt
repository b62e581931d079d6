use Rattle.std.proofs.Common.{ℕ, ◌≡◌, ◌++◌, nat_lt}
use Rattle.std.specs.Prelude.{◌&&◌, ◌||◌}
use Rattle.regalloc2_function.specs.Numbers.{ListsMembers, times_listed}
use Rattle.regalloc2_checker.specs.Holding.{is_in}
use Rattle.regalloc2_checker_sets.specs.Held.{held}
use Rattle.regalloc2_checker.proofs.tables.list_members.Given as goal

abbrev pub invariant-loop-place : goal.invariant-loop-place
invariant-loop-place g l = record {
  all : ListsMembers l.places (l.yielded ++ l.place-iterator);
  holders : (i : ℕ) → is_in l.holders.items i ≡
      (is_in l.fn.holders.items i || (nat_lt 0 (times_listed l.yielded i) && (nat_lt i l.bound && held l.sets l.entries i l.bits)));
}
