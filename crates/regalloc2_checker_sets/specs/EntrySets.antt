-- Sets of bits, by number. Bits are words of 32 bits.
use Rattle.std.specs.Prelude.{ℕ, zero, suc, ◌/◌, ◌%◌, ◌^◌, ◌≡◌, ◌<◌, ◌≤◌, Bool, true, false, ◌&&◌, cond, nat_eq, nat_lt, if◌then◌else◌}
use Rattle.std.specs.Prelude.{List, [], ◌∷◌, ◌++◌, length, get_or, Option, None, Some}
use Rattle.std.specs.Int.Bits.{bit_or}
use Rattle.regalloc2_function.specs.Numbers.{NumberSet, has_number, times_listed}
use Rattle.regalloc2_checker_sets.specs.declared.notes.Noted.{Noted}

-- whether bits are a member
abbrev pub has_bits : NumberSet → ℕ → Bool
has_bits s y = nat_lt y 4294967296 && has_number s y

-- whether bits are a member of the set of a number
abbrev pub is_member : List NumberSet → ℕ → ℕ → Bool
is_member sets n y = has_bits (get_or sets n []) y

-- the sets that were there stay
pub record AreMore (old new : List NumberSet) : Type 0 where
  pub longer : length old ≤ length new
  pub kept : (n y : ℕ) → n < length old → is_member new n y ≡ is_member old n y

-- a set has a number, and these members
pub record IsSetOf (sets : List NumberSet) (n : ℕ) (has : ℕ → Bool) : Type 0 where
  pub below : n < length sets
  pub members : (y : ℕ) → is_member sets n y ≡ has y

-- the set that has bits alone
abbrev pub set_of_one : ℕ → NumberSet
set_of_one b = (b / 64, 2 ^ (b % 64)) ∷ []

-- the set that has two bits
unfoldable pub set_of_two : ℕ → ℕ → NumberSet
set_of_two a b = cond (nat_eq (a / 64) (b / 64)) ((a / 64, bit_or (2 ^ (a % 64)) (2 ^ (b % 64))) ∷ []) (set_of_one a ++ set_of_one b)

-- a set that is kept: of two bits, or another
unfoldable pub set_of_kept : ℕ → ℕ → List NumberSet → NumberSet
set_of_kept a b [] = set_of_two a b
set_of_kept a b (s ∷ rest) = s

-- the sets that have bits alone, for the first bits
unfoldable pub sets_of_one : ℕ → List NumberSet
sets_of_one zero = []
sets_of_one (suc k) = sets_of_one k ++ set_of_one k ∷ []

-- the sets by number: the empty one, the sets of one member below 2^31 - 1, and the kept sets
unfoldable pub all_sets : List NumberSet → List NumberSet
all_sets kept = [] ∷ (sets_of_one 2147483647 ++ kept)

-- each member is listed once, and nothing else
abbrev pub ListsBits : (ℕ → Bool) → List ℕ → Type 0
ListsBits has ys = (y : ℕ) → times_listed ys y ≡ (if has y then 1 else 0)

-- some bits are a member of a set and not of another
pub record IsLess (has other : ℕ → Bool) : Type 0 where
  pub bits : ℕ
  pub small : bits < 4294967296
  pub here : has bits ≡ true
  pub not_there : other bits ≡ false

-- a set has the members of another one, with bits put in or taken out
pub record IsChangeOf (is_in : Bool) (sets : List NumberSet) (set bits number : ℕ) : Type 0 where
  pub below : set < length sets
  pub is : IsSetOf sets number (λ y. if nat_eq y bits then is_in else is_member sets set y)

-- a set has the members that two others share, and is the first of these exactly where the second has all its members
pub record IsMeetOf (sets : List NumberSet) (set other number : ℕ) : Type 0 where
  pub below : set < length sets
  pub other_below : other < length sets
  pub is : IsSetOf sets number (λ y. is_member sets set y && is_member sets other y)
  pub less : (number ≡ set → ⊥) → IsLess (is_member sets set) (is_member sets other)

-- the bits that were a member before the first parameters, by their count, took what their arguments had, where bits are one after; the last of equal
-- parameters counts
unfoldable pub taken_from : List ℕ → List ℕ → ℕ → ℕ → ℕ
taken_from params arguments zero y = y
taken_from params arguments (suc k) y = if nat_eq y (get_or params k 0) then get_or arguments k 0 else taken_from params arguments k y

-- a set has the members of another one, once the first `count` parameters took what their arguments had
pub record IsPassedOf (params arguments : List ℕ) (count : ℕ) (sets : List NumberSet) (set other number : ℕ) : Type 0 where
  pub below : set < length sets
  pub is : IsSetOf sets number (λ y. is_member sets set (taken_from params arguments count y))

-- what is noted of sets is so
abbrev pub AreNoted : (ℕ → ℕ → ℕ → Type 0) → List (Option Noted) → Type 0
AreNoted Is notes = (i : ℕ) (e : Noted) → get_or notes i None ≡ Some e → Is e.from e.other e.number

pub record AreNotes (sets : List NumberSet) (grown shrunk met : List (Option Noted)) : Type 0 where
  pub puts : AreNoted (IsChangeOf true sets) grown
  pub takes : AreNoted (IsChangeOf false sets) shrunk
  pub meets : AreNoted (IsMeetOf sets) met
