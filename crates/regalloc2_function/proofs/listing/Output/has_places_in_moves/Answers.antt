use Rattle.std.proofs.Common.{ℕ, ◌≢◌, rules, tests}
use Rattle.std.proofs.lemmas.Iterator.{cases_from_all, YieldsList-from_slice}
use Rattle.regalloc2_names.specs.Place.{NoPlace}
use Rattle.regalloc2_function.specs.Views.{move_of}
use Rattle.regalloc2_function.specs.declared.listing.Edit.{Edit}
use Rattle.regalloc2_function.proofs.Tests.{all_or_not}
use Rattle.regalloc2_function.proofs.listing.Output.has_places_in_moves.Goals as goal

abbrev NamesPlaces : (ℕ × Edit) → Type 0
NamesPlaces e = ((move_of e.1).from ≢ NoPlace) × ((move_of e.1).to ≢ NoPlace)

pub returns : goal.returns
returns g c = rw (← c.as_slice.ensures.value) (all_or_not NamesPlaces _ c.as_slice.result.now (cases_from_all _ _ _ NamesPlaces (λ e. NamesPlaces e → ⊥)
    c.all.ensures.ran (YieldsList-from_slice c.as_slice.result.now c.iter.ensures.rest) (λ x q k. search (rules, tests)) (λ x q k. search (rules, tests))))
