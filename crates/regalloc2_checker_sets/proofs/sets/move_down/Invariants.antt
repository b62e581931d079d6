use Rattle.std.proofs.Common.{◌≡◌, ℕ, ◌≤◌, [], length, get_or}
use Rattle.regalloc2_checker_sets.specs.Renumbering.{AreMovedDown}
use Rattle.regalloc2_checker_sets.proofs.sets.move_down.Given as goal

abbrev pub invariant-loop-i : goal.invariant-loop-i
invariant-loop-i g l = record {
  last : l.i-end ≡ length l.fn.numbers;
  low : l.next ≤ l.i;
  long : length l.numbers ≡ length l.fn.numbers;
  kept_long : length l.kept.items ≡ length l.fn.kept.items;
  moved : AreMovedDown l.marks l.fn.kept.items l.kept.items l.numbers l.i l.next;
  rest : (j : ℕ) → l.i ≤ j → get_or l.kept.items j [] ≡ get_or l.fn.kept.items j [];
}
