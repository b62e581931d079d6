use Rattle.std.proofs.Common.{ℕ, ◌≡◌, false, subst}
use Rattle.regalloc2_function.specs.Numbers.{has_number}
use Rattle.regalloc2_checker_sets.specs.Homes.{HomePlaces}
use Rattle.regalloc2_checker_sets.proofs.MoreLaws.{empty-has}
use Rattle.regalloc2_checker_sets.proofs.homes.Home.others.Goals as goal

pub returns-in-None-clause-none : goal.returns-in-None-clause-none
returns-in-None-clause-none g c =
    subst (λ (h : HomePlaces). (i : ℕ) → has_number h.more.others i ≡ false) c.self.view_is (rw c.in-None.is empty-has)
