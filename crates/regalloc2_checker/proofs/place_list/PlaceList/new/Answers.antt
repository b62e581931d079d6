use Rattle.std.proofs.Common.{◌∙◌, ◌++◌, List, ℕ, ap}
use Rattle.regalloc2_checker.proofs.PlacesListed.{none-listed}
use Rattle.regalloc2_checker.proofs.place_list.PlaceList.new.Goals as goal

pub returns : goal.returns
returns g c = ap (λ (l : List ℕ). l ++ c.in_ok-new.field-0) (none-listed c.empty.result c.empty.ensures.none) ∙ c.in_ok-new.ensures
