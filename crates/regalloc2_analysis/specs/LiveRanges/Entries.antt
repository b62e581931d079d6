-- Tables with entries for the requested numbers alone. A list by number gives the index of each number's entry.
use Rattle.std.specs.Prelude.{ℕ, ◌≡◌, ◌<◌, List, Bool, length, map, slice_index_or, Option, None}
use Rattle.regalloc2_analysis.specs.LiveRanges.LiveRanges.{IsWanted}

-- a table by number: `None` for a number whose index is past the end
abbrev pub spread : {X : Type 0} → List ℕ → List (Option X) → List (Option X)
spread indexes t = map (λ s. slice_index_or t s None) indexes

-- a number has an entry in a table of length `m`
abbrev pub HasEntry : List ℕ → ℕ → ℕ → Type 0
HasEntry indexes n m = (n < length indexes) × (slice_index_or indexes n 0 < m)

-- no two numbers have the same entry
abbrev pub IsApart : List ℕ → ℕ → Type 0
IsApart indexes m = (n k : ℕ) → HasEntry indexes n m → k < length indexes → slice_index_or indexes n 0 ≡ slice_index_or indexes k 0 → n ≡ k

-- each requested number has an entry of its own in a table of length `m`, other numbers have none, and no entry is left over
pub record AreEntryIndexes (wanted : List Bool) (indexes : List ℕ) (m : ℕ) : Type 0 where
  pub apart : IsApart indexes m
  pub theirs : (n : ℕ) → n < length indexes → IsWanted wanted n → HasEntry indexes n m
  pub only : (n : ℕ) → HasEntry indexes n m → IsWanted wanted n
  pub used : (s : ℕ) → s < m → (n : ℕ) × (n < length indexes) × (slice_index_or indexes n 0 ≡ s)
