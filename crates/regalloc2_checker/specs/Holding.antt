-- Which vregs places hold, in tables by number and in the current table. Places are named by their positions.
use Rattle.std.specs.Prelude.{ℕ, ◌≡◌, ◌+◌, ◌*◌, ◌/◌, ◌<◌, ◌≤◌, ◌⊎◌, Bool, true, false, ◌&&◌, nat_eq, List, length, get_or}
use Rattle.std.specs.List.{list_any}
use Rattle.std.specs.List.Sorted.{IsStrictlyIncreasing}
use Rattle.regalloc2_function.specs.Numbers.{NumberSet}
use Rattle.regalloc2_checker_sets.specs.Homes.{HomePlaces, no_homes, has_home, has_saved}
use Rattle.regalloc2_checker_sets.specs.SavedNumbers.{NumberCopies, copy_count, saved_number, number_now}
use Rattle.regalloc2_checker_sets.specs.EntrySets.{is_member, IsSetOf}
use Rattle.regalloc2_checker_sets.specs.Held.{held, AreStill}

-- the listed places and vregs, by their bits; the numbers of the sets that tables have; the sets; and each vreg's homes, the places where it may be
pub record Holding : Type 0 where
  pub places : List ℕ
  pub vregs : List ℕ
  pub entries : NumberCopies
  pub sets : List NumberSet
  pub homes : List HomePlaces

-- how many tables there are
abbrev pub count_of : Holding → ℕ
count_of t = copy_count t.entries

-- whether place i holds the vreg of bits y, in the current table
abbrev pub holds_now : Holding → ℕ → ℕ → Bool
holds_now t i y = held t.sets t.entries i y

-- whether place i holds the vreg of bits y, in table k
abbrev pub holds_in : Holding → ℕ → ℕ → ℕ → Bool
holds_in t k i y = is_member t.sets (saved_number t.entries k i) y

-- a place is one where the vreg with bits may be
abbrev pub IsHome : List ℕ → List HomePlaces → ℕ → ℕ → Type 0
IsHome vregs homes i y = (j : ℕ) → j < length vregs → get_or vregs j 0 ≡ y → has_home (get_or homes j no_homes) i ≡ true

-- a place is one where a saved table may hold the vreg with bits
abbrev pub IsSavedHome : List ℕ → List HomePlaces → ℕ → ℕ → Type 0
IsSavedHome vregs homes i y = (j : ℕ) → j < length vregs → get_or vregs j 0 ≡ y → has_saved (get_or homes j no_homes) i ≡ true

-- the numbers of an array are of sets; at the first `count` places the members of these may be
pub record AreEntries (sets : List NumberSet) (IsAt : ℕ → ℕ → Type 0) (size count : ℕ) (number : ℕ → ℕ) : Type 0 where
  pub below : (i : ℕ) → i < size → number i < length sets
  pub homed : (i y : ℕ) → i < count → is_member sets (number i) y ≡ true → IsAt i y

-- what stays true of tables: each has an entry for each place, and fills its last chunk of 64 entries with at least one more
pub record IsSoundHolding (t : Holding) : Type 0 where
  pub places_rise : IsStrictlyIncreasing t.places
  pub vregs_rise : IsStrictlyIncreasing t.vregs
  pub long : length t.entries.cells ≡ 64 * (length t.places / 64 + 1)
  pub few : length t.places < 274877906944
  pub empty : IsSetOf t.sets 0 (λ y. false)
  pub homes_long : length t.homes ≡ length t.vregs
  pub now : AreEntries t.sets (IsHome t.vregs t.homes) (length t.entries.cells) (length t.places) (number_now t.entries)
  pub tables : (k : ℕ) → AreEntries t.sets (IsSavedHome t.vregs t.homes) (length t.entries.cells) (length t.places) (saved_number t.entries k)

-- whether a number is in a list
abbrev pub is_in : List ℕ → ℕ → Bool
is_in xs i = list_any (λ x. nat_eq x i) xs

-- what is listed stays, and so do the tables
pub record AreKeptTables (old new : Holding) : Type 0 where
  pub places : new.places ≡ old.places
  pub vregs : new.vregs ≡ old.vregs
  pub count : count_of new ≡ count_of old
  pub tables : (k i y : ℕ) → i < length old.places → holds_in new k i y ≡ holds_in old k i y

-- what the current table holds
abbrev pub HoldsNow : Holding → (ℕ → ℕ → Bool) → Type 0
HoldsNow t has = (i y : ℕ) → i < length t.places → holds_now t i y ≡ has i y

-- some place holds a vreg in one way and not in another
pub record LosesSome (size : ℕ) (has other : ℕ → ℕ → Bool) : Type 0 where
  pub place : ℕ
  pub bits : ℕ
  pub place_small : place < size
  pub bits_small : bits < 4294967296
  pub here : has place bits ≡ true
  pub not_there : other place bits ≡ false

-- a meet of the positions from one up to another, as far as they are below a bound: the array keeps what a saved copy has too. `after` says whether the
-- copy has more there, or `before` is set
pub record IsMetBetween (s : List NumberSet) (e : NumberCopies) (t : List NumberSet) (f : NumberCopies) (k from end bound : ℕ) (before after : Bool)
    : Type 0 where
  pub still : AreStill s e t f
  pub done : (i y : ℕ) → from ≤ i → i < end → i < bound → held t f i y ≡ (is_member s (saved_number e k i) y && held s e i y)
  pub low : (i : ℕ) → i < from → number_now f i ≡ number_now e i
  pub rest : (i : ℕ) → end ≤ i → number_now f i ≡ number_now e i
  pub fewer : (i y : ℕ) → i < length e.cells → held t f i y ≡ true → held s e i y ≡ true
  pub less : after ≡ true → (before ≡ true) ⊎ (d : LosesSome bound (λ i y. is_member s (saved_number e k i) y) (held s e)) × (from ≤ d.place)
  pub same : after ≡ false → (before ≡ false) × ((i y : ℕ) → from ≤ i → i < end → i < bound → is_member s (saved_number e k i) y ≡ true → held s e i y ≡ true)
