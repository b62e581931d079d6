-- What an array of numbers of sets holds at its positions.
use Rattle.std.specs.Prelude.{ℕ, ◌≡◌, ◌<◌, Bool, List, length}
use Rattle.regalloc2_function.specs.Numbers.{NumberSet}
use Rattle.regalloc2_checker_sets.specs.SavedNumbers.{NumberCopies, copy_count, saved_number, number_now}
use Rattle.regalloc2_checker_sets.specs.EntrySets.{is_member, AreMore}

-- whether an array of numbers has a set with bits at a position
abbrev pub held : List NumberSet → NumberCopies → ℕ → ℕ → Bool
held sets e i y = is_member sets (number_now e i) y

-- the numbers of the current array are of sets
abbrev pub AreBelow : List NumberSet → NumberCopies → Type 0
AreBelow sets e = (i : ℕ) → i < length e.cells → number_now e i < length sets

-- only the current array changed, and sets were added
pub record AreStill (s : List NumberSet) (e : NumberCopies) (t : List NumberSet) (f : NumberCopies) : Type 0 where
  pub more : AreMore s t
  pub long : length f.cells ≡ length e.cells
  pub count : copy_count f ≡ copy_count e
  pub saved : (k i : ℕ) → saved_number f k i ≡ saved_number e k i
  pub below : AreBelow t f
