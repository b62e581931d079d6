-- Kept sets that no table has are dropped, and the others get new numbers.
use Rattle.std.specs.Prelude.{ℕ, ◌≡◌, ◌+◌, ◌-◌, ◌<◌, ◌≤◌, ◌⊎◌, Bool, true, false, nat_lt, if◌then◌else◌, List, [], length, get_or, Contains}
use Rattle.regalloc2_function.specs.Numbers.{NumberSet}
use Rattle.regalloc2_checker_sets.specs.EntrySets.{is_member, IsSetOf}
use Rattle.regalloc2_checker_sets.specs.SavedNumbers.{NumberCopies, copy_count, saved_number}
use Rattle.regalloc2_checker_sets.specs.Held.{held, AreBelow}

-- the new number of a set: a number below 2^31, which is of no kept set, stays
abbrev pub renamed : List ℕ → ℕ → ℕ
renamed numbers n = if nat_lt n 2147483648 then n else get_or numbers (n - 2147483648) 0

-- a set isn't kept, or has a mark; sets past the marks count as marked
abbrev pub IsMarked : List Bool → ℕ → Type 0
IsMarked marks n = 2147483648 ≤ n → get_or marks (n - 2147483648) true ≡ true

-- a kept set is moved below an index
pub record IsMovedTo (old new : List NumberSet) (numbers : List ℕ) (next j : ℕ) : Type 0 where
  pub to : ℕ
  pub number : get_or numbers j 0 ≡ 2147483648 + to
  pub below : to < next
  pub same : get_or new to [] ≡ get_or old j []

-- of the kept sets below index i, the marked sets are the first next ones
pub record AreMovedDown (marks : List Bool) (old new : List NumberSet) (numbers : List ℕ) (i next : ℕ) : Type 0 where
  pub moved : (j : ℕ) → j < i → get_or marks j true ≡ true → IsMovedTo old new numbers next j
  pub dropped : (j : ℕ) → j < i → get_or marks j true ≡ false → get_or numbers j 0 ≡ 0
  pub each : (m : ℕ) → m < next → (j : ℕ) × (j < i) × (get_or marks j true ≡ true) × (get_or numbers j 0 ≡ 2147483648 + m)

-- the kept sets without a mark are dropped, and the others have new numbers
pub record AreMarkedKept (marks : List Bool) (old new : List NumberSet) (numbers : List ℕ) : Type 0 where
  pub below : (n : ℕ) → n < length old → IsMarked marks n → renamed numbers n < length new
  pub members : (n y : ℕ) → n < length old → IsMarked marks n → is_member new (renamed numbers n) y ≡ is_member old n y
  pub dropped : (n : ℕ) → n < length old → (IsMarked marks n → ⊥) → renamed numbers n ≡ 0
  pub each : (m : ℕ) → m < length new → (n : ℕ) × (n < length old) × IsMarked marks n × (renamed numbers n ≡ m)

-- a number is among the words of saved copies, or in the array
abbrev pub AppearsIn : NumberCopies → ℕ → Type 0
AppearsIn e n = Contains e.words n ⊎ Contains e.cells n

-- each number is of a set
pub record AreOfSets (s : List NumberSet) (e : NumberCopies) : Type 0 where
  pub now : AreBelow s e
  pub tables : (k i : ℕ) → i < length e.cells → saved_number e k i < length s

-- an array and its saved copies have sets with the members that they had
pub record HaveSameMembers (s : List NumberSet) (e : NumberCopies) (t : List NumberSet) (f : NumberCopies) : Type 0 where
  pub count : copy_count f ≡ copy_count e
  pub long : length f.cells ≡ length e.cells
  pub below : AreOfSets t f
  pub empty : IsSetOf t 0 (λ y. false)
  pub now : (i y : ℕ) → i < length e.cells → held t f i y ≡ held s e i y
  pub tables : (k i y : ℕ) → i < length e.cells → is_member t (saved_number f k i) y ≡ is_member s (saved_number e k i) y
