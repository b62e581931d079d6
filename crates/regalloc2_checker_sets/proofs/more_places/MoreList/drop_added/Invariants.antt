use Rattle.std.proofs.Common.{ℕ, ◌≡◌, true, length, get_or}
use Rattle.regalloc2_checker_sets.specs.Homes.{no_more, has_saved_more}
use Rattle.regalloc2_checker_sets.proofs.MoreLists.{AreLeft}
use Rattle.regalloc2_checker_sets.proofs.more_places.MoreList.drop_added.Given as goal

-- no place is lost, and those at the indexes so far are saved
abbrev pub invariant-loop-k : goal.invariant-loop-k
invariant-loop-k g l = record {
  last : l.k-end ≡ length l.self-inside.grown.items;
  kept : (n i : ℕ) → has_saved_more (get_or l.fn.self n no_more) i ≡ true → has_saved_more (get_or l.self-inside.items.items n no_more) i ≡ true;
  left : AreLeft l.self-inside.items.items l.self-inside.grown.items l.k;
}
