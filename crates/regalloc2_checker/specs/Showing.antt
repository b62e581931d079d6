-- What tables show in which one vreg may stand for a second, whose places aren't noted yet: a parameter that was passed for its argument.
use Rattle.std.specs.Prelude.{ℕ, ◌≡◌, ◌+◌, ◌<◌, Bool, ◌&&◌, nat_eq, nat_lt, if◌then◌else◌, List, length, get_or, Option, None, Some}
use Rattle.regalloc2_function.specs.Numbers.{NumberSet}
use Rattle.regalloc2_checker_sets.specs.SavedNumbers.{NumberCopies}
use Rattle.regalloc2_checker_sets.specs.Homes.{HomePlaces}
use Rattle.regalloc2_checker.specs.Holding.{Holding, count_of, holds_now, holds_in}
use Rattle.regalloc2_checker.specs.declared.passing.Passed.{Passed}

-- what is held, the parameter that was passed in the current table, and the parameter that was passed in each table
pub record Showing : Type 0 where
  pub places : List ℕ
  pub vregs : List ℕ
  pub entries : NumberCopies
  pub sets : List NumberSet
  pub homes : List HomePlaces
  pub passed : Option Passed
  pub saved : List (Option Passed)

-- tables, with what was passed
abbrev pub showing : Holding → Option Passed → List (Option Passed) → Showing
showing t passed saved = record {
  places = t.places;
  vregs = t.vregs;
  entries = t.entries;
  sets = t.sets;
  homes = t.homes;
  passed = passed;
  saved = saved;
}

-- tables, without what was passed
abbrev pub bare : Showing → Holding
bare t = record { places = t.places; vregs = t.vregs; entries = t.entries; sets = t.sets; homes = t.homes }

-- the bits under which a vreg is held: a parameter that was passed is held under its argument's
unfoldable pub read_as : List ℕ → Option Passed → ℕ → ℕ
read_as vregs None y = y
read_as vregs (Some p) y = if nat_eq y (get_or vregs p.parameter 0) then get_or vregs p.argument 0 else y

-- how many tables are shown
abbrev pub table_count : Showing → ℕ
table_count t = length t.saved

-- whether place i shows the vreg of bits y, in the current table
abbrev pub shows_now : Showing → ℕ → ℕ → Bool
shows_now t i y = holds_now (bare t) i (read_as t.vregs t.passed y)

-- whether place i shows the vreg of bits y, in table k
abbrev pub shows_in : Showing → ℕ → ℕ → ℕ → Bool
shows_in t k i y = nat_lt k (table_count t) && holds_in (bare t) k i (read_as t.vregs (get_or t.saved k None) y)

-- a parameter and its argument are listed
abbrev pub ListsPassed : List ℕ → Option Passed → Type 0
ListsPassed vregs o = (p : Passed) → o ≡ Some p → (p.parameter < length vregs) × (p.argument < length vregs)

-- no other vreg is held under some bits, nor do they stand for others
abbrev pub IsReadApart : List ℕ → Option Passed → ℕ → Type 0
IsReadApart vregs o n = (y : ℕ) → nat_eq (read_as vregs o y) n ≡ nat_eq y n

-- what stays true: one table is spare, and what is passed is listed
pub record AreShown (t : Showing) : Type 0 where
  pub spare : count_of (bare t) ≡ length t.saved + 1
  pub now : ListsPassed t.vregs t.passed
  pub tables : (k : ℕ) → ListsPassed t.vregs (get_or t.saved k None)

-- what is listed stays, and so do the tables
pub record AreTablesKept (old new : Showing) : Type 0 where
  pub places : new.places ≡ old.places
  pub vregs : new.vregs ≡ old.vregs
  pub count : table_count new ≡ table_count old
  pub tables : (k i y : ℕ) → i < length old.places → shows_in new k i y ≡ shows_in old k i y

-- what the current table shows
abbrev pub ShowsNow : Showing → (ℕ → ℕ → Bool) → Type 0
ShowsNow t shows = (i y : ℕ) → i < length t.places → shows_now t i y ≡ shows i y
