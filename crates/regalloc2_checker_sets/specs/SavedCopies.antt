-- An array of numbers, and saved copies of it in chunks of 64, stored in one list of words.
use Rattle.std.specs.Prelude.{ℕ, ◌≡◌, ◌+◌, ◌*◌, ◌-◌, ◌/◌, ◌%◌, ◌<◌, ◌≤◌, List, [], length, get_or, Option, None, Some}

-- a saved copy is where its chunks begin among the words; a chunk that it lacks begins at 0
pub record Copies : Type 0 where
  pub words : List ℕ
  pub saved : List (List ℕ)
  pub cells : List ℕ

-- the number at a position of what chunks make
abbrev pub number_in : List ℕ → List ℕ → ℕ → ℕ
number_in words bases i = get_or words (get_or bases (i / 64) 0 + i % 64) 0

-- the number at a position of a saved copy
abbrev pub saved_at : Copies → ℕ → ℕ → ℕ
saved_at v k i = number_in v.words (get_or v.saved k []) i

-- the number at a position of the array
abbrev pub number_in_cell : Copies → ℕ → ℕ
number_in_cell v i = get_or v.cells i 0

-- a chunk of the array has the words from a base on
pub record IsChunkAt (words cells : List ℕ) (chunk base : ℕ) : Type 0 where
  pub within : base + 64 ≤ length words
  pub same : (t : ℕ) → t < 64 → get_or cells (64 * chunk + t) 0 ≡ get_or words (base + t) 0

-- a chunk of the array that is known to be among the words is there
abbrev pub AreClean : List ℕ → List ℕ → List (Option ℕ) → Type 0
AreClean words cells clean = (j b : ℕ) → j < length clean → get_or clean j None ≡ Some b → IsChunkAt words cells j b

-- chunks are within the words
abbrev pub AreWithin : List ℕ → List ℕ → Type 0
AreWithin words bases = (j : ℕ) → get_or bases j 0 + 64 ≤ length words

-- what stays true of the parts
pub record AreKept (words : List ℕ) (saved : List (List ℕ)) (cells : List ℕ) (clean : List (Option ℕ)) : Type 0 where
  pub long : length cells ≡ 64 * length clean
  pub some : 64 ≤ length words
  pub within : (k : ℕ) → AreWithin words (get_or saved k [])
  pub known : AreClean words cells clean

-- words are put at the end
pub record AreMoreWords (old new : List ℕ) : Type 0 where
  pub longer : length old ≤ length new
  pub kept : (i : ℕ) → i < length old → get_or new i 0 ≡ get_or old i 0

-- the chunks of an array are among the words
pub record AreBases (words cells bases : List ℕ) (count : ℕ) : Type 0 where
  pub count_is : length bases ≡ count
  pub chunks : (j : ℕ) → j < count → IsChunkAt words cells j (get_or bases j 0)

-- chunks of words and an array have the same from a position up to another
abbrev pub AreSame : List ℕ → List ℕ → List ℕ → ℕ → ℕ → Type 0
AreSame words bases cells from end = (i : ℕ) → from ≤ i → i < end → get_or cells i 0 ≡ number_in words bases i

-- the first position from one on at which an array differs from what chunks make
pub record IsFirstDifference (words bases cells : List ℕ) (from i : ℕ) : Type 0 where
  pub low : from ≤ i
  pub high : i < length cells
  pub differs : get_or cells i 0 ≡ number_in words bases i → ⊥
  pub before : AreSame words bases cells from i

-- a saved copy and the array have the same from a position up to another
abbrev pub AreSameBetween : Copies → ℕ → ℕ → ℕ → Type 0
AreSameBetween v k from end = (i : ℕ) → from ≤ i → i < end → number_in_cell v i ≡ saved_at v k i

-- the first position from one on at which a chunk of the array differs from the words from a base on
pub record IsDifferenceIn (words : List ℕ) (base : ℕ) (cells : List ℕ) (first from i : ℕ) : Type 0 where
  pub low : first ≤ i
  pub high : i < first + 64
  pub here : from ≤ i
  pub differs : get_or cells i 0 ≡ get_or words (base + (i - first)) 0 → ⊥
  pub before : (t : ℕ) → from - first ≤ t → first + t < i → get_or cells (first + t) 0 ≡ get_or words (base + t) 0
