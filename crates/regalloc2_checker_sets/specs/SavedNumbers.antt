-- An array of numbers, and saved copies of it in chunks of 64, stored in one list of words. Where chunks begin is an array of its own, with saved copies.
use Rattle.std.specs.Prelude.{ℕ, ◌≡◌, ◌+◌, ◌*◌, ◌/◌, ◌%◌, ◌<◌, ◌≤◌, ◌⊎◌, Bool, false, List, [], length, get_or}
use Rattle.regalloc2_checker_sets.specs.SavedCopies.{Copies, number_in, saved_at, number_in_cell, IsChunkAt}

-- saved copies: where their chunks begin among the words is itself stored in chunks, of other words
pub record NumberCopies : Type 0 where
  pub words : List ℕ
  pub base_words : List ℕ
  pub base_rows : List (List ℕ)
  pub cells : List ℕ

-- how many saved copies there are
abbrev pub copy_count : NumberCopies → ℕ
copy_count v = length v.base_rows

-- where a chunk of a saved copy begins
abbrev pub base_at : NumberCopies → ℕ → ℕ → ℕ
base_at v k j = number_in v.base_words (get_or v.base_rows k []) j

-- the number at a position of a saved copy
abbrev pub saved_number : NumberCopies → ℕ → ℕ → ℕ
saved_number v k i = get_or v.words (base_at v k (i / 64) + i % 64) 0

-- the number at a position of the array
abbrev pub number_now : NumberCopies → ℕ → ℕ
number_now v i = get_or v.cells i 0

-- a saved copy and the array have the same from a position up to another
abbrev pub AreAlikeBetween : NumberCopies → ℕ → ℕ → ℕ → Type 0
AreAlikeBetween v k from end = (i : ℕ) → from ≤ i → i < end → number_now v i ≡ saved_number v k i

-- a saved copy and the array of the parts have the same from a position up to another
abbrev pub ArePartsAlike : List ℕ → List ℕ → Copies → ℕ → ℕ → ℕ → Type 0
ArePartsAlike words cells bases k from end = (i : ℕ) → from ≤ i → i < end → get_or cells i 0 ≡ get_or words (saved_at bases k (i / 64) + i % 64) 0

-- what stays true of the parts: the chunks of saved copies are within the words, each chunk of the array that is stored is where its base says,
-- and bases past the array's chunks are zeros
pub record AreChunksKept (words cells : List ℕ) (bases : Copies) : Type 0 where
  pub whole : length cells % 64 ≡ 0
  pub long : length cells ≤ 64 * length bases.cells
  pub within : (k j : ℕ) → j < length bases.cells → saved_at bases k j + 64 ≤ length words
  pub small : (k j : ℕ) → j < length bases.cells → saved_at bases k j < 4294967295
  pub known : (j : ℕ) → j < length bases.cells → number_in_cell bases j < 4294967295 → IsChunkAt words cells j (number_in_cell bases j)
  pub past_now : (j : ℕ) → length cells ≤ 64 * j → j < length bases.cells → number_in_cell bases j ≡ 0
  pub past_saved : (k j : ℕ) → length cells ≤ 64 * j → j < length bases.cells → saved_at bases k j ≡ 0

-- only the working array of the chunks' bases changed
pub record AreCopiesKept (old new : Copies) : Type 0 where
  pub words : new.words ≡ old.words
  pub saved : new.saved ≡ old.saved
  pub long : length new.cells ≡ length old.cells

-- the array has the chunks of a saved copy, below a chunk
abbrev pub AreLoaded : List ℕ → List ℕ → Copies → ℕ → ℕ → Type 0
AreLoaded words cells bases k end = (j : ℕ) → j < end → j < length bases.cells → IsChunkAt words cells j (saved_at bases k j)

-- the chunks of the array below a chunk are among the words
abbrev pub AreSaved : Copies → ℕ → Type 0
AreSaved bases end = (j : ℕ) → j < end → j < length bases.cells → number_in_cell bases j < 4294967295

-- the first n numbers are written into the array, from a position on
pub record AreWrittenTo (numbers : List ℕ) (first n : ℕ) (old new : NumberCopies) : Type 0 where
  pub count : copy_count new ≡ copy_count old
  pub saved : (k i : ℕ) → saved_number new k i ≡ saved_number old k i
  pub long : length new.cells ≡ length old.cells
  pub written : (t : ℕ) → t < n → number_now new (first + t) ≡ get_or numbers t 0
  pub before : (i : ℕ) → i < first → number_now new i ≡ number_now old i
  pub after : (i : ℕ) → first + n ≤ i → number_now new i ≡ number_now old i

-- two arrays have the same numbers
pub record AreNumbersSame (a b : NumberCopies) : Type 0 where
  pub long : length b.cells ≡ length a.cells
  pub same : (i : ℕ) → i < length a.cells → number_now b i ≡ number_now a i

-- the array has what it had, or what a saved copy has
abbrev pub IsSomeArray : NumberCopies → NumberCopies → Type 0
IsSomeArray old new = ((i : ℕ) → i < length old.cells → number_now new i ≡ number_now old i)
    ⊎ ((k : ℕ) × ((i : ℕ) → i < length old.cells → number_now new i ≡ saved_number old k i))

-- saved copies without the marked copies, which are zeros
pub record IsWithout (marks : List Bool) (old new : NumberCopies) : Type 0 where
  pub count : copy_count new ≡ copy_count old
  pub long : length new.cells ≡ length old.cells
  pub array : IsSomeArray old new
  pub kept : (k i : ℕ) → k < copy_count old → get_or marks k false ≡ false → i < length old.cells → saved_number new k i ≡ saved_number old k i
  pub each : (k i : ℕ) → i < length old.cells → (saved_number new k i ≡ 0) ⊎ (saved_number new k i ≡ saved_number old k i)
