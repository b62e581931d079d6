use Rattle.std.proofs.Common.{ℕ, ◌≡◌, true, false}
use Rattle.std.specs.Option.{option_map}
use Rattle.regalloc2_function.specs.Numbers.{has_number}
use Rattle.regalloc2_checker_sets.specs.Homes.{is_one_of, set_in}
use Rattle.regalloc2_checker_sets.proofs.more_places.remove_all.Given as goal

-- the members that aren't among the places are still there
abbrev pub invariant-loop-place : goal.invariant-loop-place
invariant-loop-place g l = (i : ℕ) → is_one_of l.places i ≡ false → has_number (set_in (option_map (λ b. b.value) l.fn.others)) i ≡ true
    → has_number l.set.value i ≡ true
