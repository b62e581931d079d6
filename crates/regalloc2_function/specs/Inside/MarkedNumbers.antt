-- Numbers that are marked in a table.
use Rattle.std.specs.Prelude.{ℕ, ◌≡◌, ◌<◌, ◌⊎◌, Bool, true, false, List, length, slice_index_or}

-- the numbers of a kind are marked
pub record Marks (P : ℕ → Type 0) (old new : List Bool) : Type 0 where
  pub marked : (n : ℕ) → slice_index_or new n false ≡ true → (slice_index_or old n false ≡ true) ⊎ ((n < length old) × P n)
  pub kept : (n : ℕ) → slice_index_or old n false ≡ true → slice_index_or new n false ≡ true
  pub marks : (n : ℕ) → n < length old → P n → slice_index_or new n false ≡ true
