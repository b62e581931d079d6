use Rattle.std.proofs.Common.{ℕ, ◌≡◌, true, List, get_or, map, subst}
use Rattle.regalloc2_checker_sets.specs.Homes.{HomePlaces, no_homes, home_of, has_saved}
use Rattle.regalloc2_checker_sets.proofs.HomeLists.{homes-dropped}
use Rattle.regalloc2_checker_sets.proofs.homes.Homes.drop_added.Goals as goal

pub returns-clause-saved : goal.returns-clause-saved
returns-clause-saved g c =
    let all = c.self.inside.entries.items in
    subst (λ (h : List HomePlaces). (j i : ℕ) → has_saved (get_or h j no_homes) i ≡ true
    → has_saved (get_or (map (home_of c.drop_added.new.self) all) j no_homes) i ≡ true) c.self.view_is
    (homes-dropped c.self.inside.more c.drop_added.new.self all c.drop_added.ensures)
