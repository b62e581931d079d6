use Rattle.std.proofs.Common.{ℕ, ◌≡◌, ◌≤◌, length}
use Rattle.std.specs.List.{AllAdjacentBelow}
use Rattle.regalloc2_function.specs.declared.listing.Edit.{Edit}
use Rattle.regalloc2_function.proofs.listing.Output.has_points_in_order.Given as goal

-- the points so far don't fall
abbrev pub invariant-loop-i : goal.invariant-loop-i
invariant-loop-i g l = record {
  whole : l.i-end ≡ length l.edits;
  so_far : AllAdjacentBelow (λ (x y : ℕ × Edit). x.0 ≤ y.0) l.edits l.i;
}
