use Rattle.std.proofs.Common.{ℕ, ◌≡◌, false, subst}
use Rattle.regalloc2_function.specs.Numbers.{has_number}
use Rattle.regalloc2_checker_sets.specs.Homes.{MorePlaces}
use Rattle.regalloc2_checker_sets.proofs.MoreLaws.{empty-has}
use Rattle.regalloc2_checker_sets.proofs.more_places.More.others.Goals as goal

pub returns-in-None-clause-none : goal.returns-in-None-clause-none
returns-in-None-clause-none g c =
    subst (λ (m : MorePlaces). (i : ℕ) → has_number m.others i ≡ false) c.self.view_is (rw c.in-None.is empty-has)
