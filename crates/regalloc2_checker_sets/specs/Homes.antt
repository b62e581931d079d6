-- The homes of a vreg: the places where it may be.
use Rattle.std.specs.Prelude.{ℕ, ◌≡◌, ◌<◌, ◌⊎◌, Bool, true, ◌&&◌, ◌||◌, not, nat_eq, nat_lt, List, [], ◌∷◌, get_or, length, take, Contains}
use Rattle.std.specs.Prelude.{Option, None, Some, if◌then◌else◌}
use Rattle.std.specs.Int.{bit_at}
use Rattle.regalloc2_function.specs.Numbers.{NumberSet, has_number, times_listed}

-- more places: numbers, of which the first `saved` were saved, and a set of other places, of which the added ones weren't
pub record MorePlaces : Type 0 where
  pub numbers : List ℕ
  pub saved : ℕ
  pub others : NumberSet
  pub added : List ℕ

-- a mask of the places below 32, two numbers that stand for a place each, or for none if they are 0, and more places
pub record HomePlaces : Type 0 where
  pub low : ℕ
  pub first : ℕ
  pub second : ℕ
  pub more : MorePlaces

-- a home as it is kept, with the index of its more places in their list, past the last if it has none
pub record HomeEntry : Type 0 where
  pub low : ℕ
  pub first : ℕ
  pub second : ℕ
  pub index : ℕ

-- the numbers of a set, if there is one
abbrev pub set_in : Option NumberSet → NumberSet
set_in None = []
set_in (Some s) = s

-- no more places
abbrev pub no_more : MorePlaces
no_more = record { numbers = []; saved = 0; others = []; added = [] }

-- more places, if there are some
abbrev pub more_in : Option MorePlaces → MorePlaces
more_in None = no_more
more_in (Some m) = m

-- no places
abbrev pub no_homes : HomePlaces
no_homes = record { low = 0; first = 0; second = 0; more = no_more }

-- the places of a home that is kept
abbrev pub home_of : List MorePlaces → HomeEntry → HomePlaces
home_of more e = record { low = e.low; first = e.first; second = e.second; more = get_or more e.index no_more }

-- the place that a number stands for, if any
abbrev pub place_list : ℕ → List ℕ
place_list n = if nat_lt 0 n then n ∷ [] else []

-- whether a number stands for a place, which none does that is 0
abbrev pub stands_for : ℕ → ℕ → Bool
stands_for n i = nat_lt 0 n && nat_eq i n

-- whether a place is one of some numbers
abbrev pub is_one_of : List ℕ → ℕ → Bool
is_one_of ns i = nat_lt 0 (times_listed ns i)

-- whether a place is in a mask, or one of two
unfoldable pub is_first : ℕ → ℕ → ℕ → ℕ → Bool
is_first low first second i = nat_eq (bit_at low i) 1 || (stands_for first i || stands_for second i)

-- whether a place is one of more
unfoldable pub has_more : MorePlaces → ℕ → Bool
has_more m i = is_one_of m.numbers i || has_number m.others i

-- whether a place is one of more that were saved
unfoldable pub has_saved_more : MorePlaces → ℕ → Bool
has_saved_more m i = is_one_of (take m.saved m.numbers) i || (has_number m.others i && not (is_one_of m.added i))

-- each place of more was saved
abbrev pub IsSaved : MorePlaces → Type 0
IsSaved m = (i : ℕ) → has_more m i ≡ true → has_saved_more m i ≡ true

-- places are added to more places
pub record IsMore (old new : MorePlaces) : Type 0 where
  pub kept : (i : ℕ) → has_more old i ≡ true → has_more new i ≡ true
  pub saved : (i : ℕ) → has_saved_more old i ≡ true → has_saved_more new i ≡ true

-- places are added to the more places of a list
abbrev pub AreMorePlaces : List MorePlaces → List MorePlaces → Type 0
AreMorePlaces old new = (n : ℕ) → IsMore (get_or old n no_more) (get_or new n no_more)

-- more places that weren't saved are listed by their indexes, which are within the list of more places
pub record AreGrown (more : List MorePlaces) (grown : List ℕ) : Type 0 where
  pub within : (k : ℕ) → k < length grown → get_or grown k 0 < length more
  pub others : (n : ℕ) → Contains grown n ⊎ IsSaved (get_or more n no_more)

-- whether a place is in the mask, or a number stands for it
unfoldable pub has_few : HomePlaces → ℕ → Bool
has_few h i = is_first h.low h.first h.second i || is_one_of h.more.numbers i

-- whether a place is one of them
unfoldable pub has_home : HomePlaces → ℕ → Bool
has_home h i = has_few h i || has_number h.more.others i

-- whether a place is in the mask, or one of the two, or one of more that were saved
unfoldable pub has_saved : HomePlaces → ℕ → Bool
has_saved h i = is_first h.low h.first h.second i || has_saved_more h.more i

-- places are added to a home
pub record IsMoreHome (old new : HomePlaces) : Type 0 where
  pub kept : (i : ℕ) → has_home old i ≡ true → has_home new i ≡ true
  pub saved : (i : ℕ) → has_saved old i ≡ true → has_saved new i ≡ true

-- homes are added
pub record AreMoreHomes (old new : List HomePlaces) : Type 0 where
  pub long : length new ≡ length old
  pub kept : (j i : ℕ) → has_home (get_or old j no_homes) i ≡ true → has_home (get_or new j no_homes) i ≡ true
  pub saved : (j i : ℕ) → has_saved (get_or old j no_homes) i ≡ true → has_saved (get_or new j no_homes) i ≡ true
