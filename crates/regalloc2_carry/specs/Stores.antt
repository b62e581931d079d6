-- Values stored at the beginning of a block, one after another, such as the values that the branch into the block
-- defines.
use Rattle.std.specs.Prelude.{◌≡◌, ◌≢◌, Bool, true, false, List, [], ◌∷◌, ◌++◌, Option, None, Some}
use Rattle.regalloc2_names.specs.Place.{Place, NoPlace}
use Rattle.regalloc2_function.specs.OutputValue.{MoveValue}

-- a value is copied from one place to another, through a third place if `by` names one
pub record Store : Type 0 where
  pub from : Place
  pub by : Option Place
  pub to : Place

-- the moves of one store
abbrev pub moves_by : Place → Option Place → Place → List MoveValue
moves_by from None to = record { from = from; to = to } ∷ []
moves_by from (Some by) to = record { from = from; to = by } ∷ record { from = by; to = to } ∷ []

-- the moves of all stores of a list
unfoldable pub store_moves : List Store → List MoveValue
store_moves [] = []
store_moves (s ∷ ss) = moves_by s.from s.by s.to ++ store_moves ss

-- the store is in the list
pub data IsOneOf (x : Store) : List Store → Type 0 where
  first : {s : Store} {ss : List Store} → s ≡ x → IsOneOf x (s ∷ ss)
  later : {s : Store} {ss : List Store} → IsOneOf x ss → IsOneOf x (s ∷ ss)

-- the store doesn't write the place
abbrev pub Avoids : Store → Place → Type 0
Avoids s p = (p ≢ s.to) × ((q : Place) → s.by ≡ Some q → p ≢ q)

-- target and intermediate places exist; no store writes an earlier one's target, or a place that a later one reads
unfoldable pub AreStores : List Store → Type 0
AreStores [] = Unit {0}
AreStores (s ∷ ss) = (s.to ≢ NoPlace) × ((q : Place) → s.by ≡ Some q → q ≢ NoPlace) × ((t : Store) → IsOneOf t ss → Avoids t s.to × Avoids s t.from)
    × AreStores ss

-- Stores to stack places (M is true of these): the target is a stack place, and an intermediate place isn't; no later
-- store has the same target or starts from it; and after a store through an intermediate place all later ones start
-- from stack places.
unfoldable pub AreInOrder : (Place → Bool) → List Store → Type 0
AreInOrder M [] = Unit {0}
AreInOrder M (s ∷ ss) = (M s.to ≡ true) × ((q : Place) → s.by ≡ Some q → (M q ≡ false) × (q ≢ NoPlace))
    × ((t : Store) → IsOneOf t ss → (s.to ≢ t.to) × (t.from ≢ s.to) × ((q : Place) → s.by ≡ Some q → M t.from ≡ true)) × AreInOrder M ss
