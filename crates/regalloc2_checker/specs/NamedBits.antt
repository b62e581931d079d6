-- Bits that are listed.
use Rattle.std.specs.Prelude.{ℕ, ◌↔◌, ◌⊎◌, List, Contains}
use Rattle.std.specs.List.{flat_map}
use Rattle.regalloc2_names.specs.Place.{Place}
use Rattle.regalloc2_function.specs.declared.listing.Edit.{Edit}
use Rattle.regalloc2_function.specs.Views.{move_of}
use Rattle.regalloc2_checker.specs.NamedPlaces.{bits_unless_missing, places_of}

-- what was listed stays
abbrev pub IsMore : List ℕ → List ℕ → Type 0
IsMore old new = (n : ℕ) → Contains old n → Contains new n

-- the bits of places are listed beside what was listed, but for missing ones
abbrev pub ArePlacesAdded : List ℕ → List ℕ → List Place → Type 0
ArePlacesAdded old new ps = (n : ℕ) → Contains new n ↔ (Contains old n ⊎ Contains (flat_map bits_unless_missing ps) n)

-- the two places of an edit at a point
abbrev pub places_of_edit : (ℕ × Edit) → List Place
places_of_edit e = places_of (move_of e.1)
