-- Slots that are named, with the units that they take.
use Rattle.std.specs.Prelude.{ℕ, ◌⊎◌, ◌↔◌, List, Contains}

-- these slots, with units, are added to others
abbrev pub AddsSlots : (ℕ → ℕ → Type 0) → List (ℕ × ℕ) → List (ℕ × ℕ) → Type 0
AddsSlots P old now = (n u : ℕ) → Contains now (n, u) ↔ (Contains old (n, u) ⊎ P n u)
