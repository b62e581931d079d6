-- What places must be that a resolver's closures return.
use Rattle.std.specs.Prelude.{◌≡◌, ◌≢◌, Bool, List, Option, Some}
use Rattle.regalloc2_names.specs.Place.{Place, NoPlace, is_in_slot}
use Rattle.regalloc2_parts.specs.Resolved.{IsUnnamed}

-- the place, if there is one, is a slot or none as required, and no move names it
abbrev pub Serves : {T : Type 0} → List (Place × Place × T) → Option Place → Bool → Type 0
Serves ms free is_slot = (p : Place) → free ≡ Some p → (is_in_slot p ≡ is_slot) × (p ≢ NoPlace) × IsUnnamed p ms

-- the places, if there are two, differ
abbrev pub AreApart : Option Place → Option Place → Type 0
AreApart first second = (p q : Place) → first ≡ Some p → second ≡ Some q → p ≢ q
