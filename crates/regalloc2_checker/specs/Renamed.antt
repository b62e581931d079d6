-- What parameters hold after they took their arguments.
use Rattle.std.specs.Prelude.{ℕ, ◌≡◌, ◌<◌, ◌⊎◌, Bool, true, false, ◌&&◌, if◌then◌else◌, List, [], ◌∷◌, length, get_or}
use Rattle.std.specs.declared.vec.Vec.{Vec}
use Rattle.regalloc2_names.specs.Register.{VirtualRegister, is_vreg}
use Rattle.regalloc2_names.specs.Place.{Place}
use Rattle.regalloc2_checker.specs.Holding.{is_in}
use Rattle.regalloc2_checker.specs.Facts.{Facts, renaming}
use Rattle.regalloc2_checker.specs.TableFacts.{is_packed, place_in, held_at, facts_in}

-- facts, once parameters took what arguments had
abbrev pub facts_renamed : List VirtualRegister → List VirtualRegister → Facts → Facts
facts_renamed params arguments F = λ p v. F p (renaming params arguments (λ u. u) v)

-- whether a place is listed at one of some positions
abbrev pub stands_in : List ℕ → List ℕ → Place → Bool
stands_in places positions p = is_packed p && held_at (place_in places p) (λ i y. is_in positions i) 0

-- exactly the places at the positions hold a vreg
pub record HoldersAre (places : List ℕ) (has : ℕ → ℕ → Bool) (v : VirtualRegister) (positions : List ℕ) : Type 0 where
  pub within : (i : ℕ) → is_in positions i ≡ true → i < length places
  pub holders : (p : Place) → stands_in places positions p ≡ facts_in places has p v

-- list k has the positions of the places that hold vreg k
abbrev pub AreHoldersOf : {A : Type 0} → List ℕ → (ℕ → ℕ → Bool) → List VirtualRegister → List (Vec ℕ A) → Type 0
AreHoldersOf places has vs had = (k : ℕ) (d : Vec ℕ _) (u : VirtualRegister) → k < length had → HoldersAre places has (get_or vs k u) (get_or had k d).items

-- a vreg is held by the places at just these positions
abbrev pub given_to : VirtualRegister → List ℕ → List ℕ → Facts → Facts
given_to v places positions F = λ p u. if is_vreg v u then stands_in places positions p else F p u

-- a vreg is a parameter that takes an argument: what it is renamed to doesn't depend on what it would be otherwise
abbrev pub TakesArgument : List VirtualRegister → List VirtualRegister → VirtualRegister → Type 0
TakesArgument params arguments v = (r s : VirtualRegister → VirtualRegister) → renaming params arguments r v ≡ renaming params arguments s v

-- facts, once a vreg is taken out of every place
abbrev pub facts_forgotten : VirtualRegister → Facts → Facts
facts_forgotten u F = λ p v. if is_vreg u v then false else F p v

-- facts, once vregs are taken out of every place, one after another
unfoldable pub facts_without : List VirtualRegister → Facts → Facts
facts_without [] F = F
facts_without (u ∷ us) F = facts_without us (facts_forgotten u F)

-- the facts of all vregs but such parameters stay
abbrev pub AreOthersKept : List VirtualRegister → List VirtualRegister → Facts → Facts → Type 0
AreOthersKept params arguments F G = (p : Place) (v : VirtualRegister) → (G p v ≡ F p v) ⊎ TakesArgument params arguments v
