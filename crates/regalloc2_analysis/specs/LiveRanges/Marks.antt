-- Numbers that are marked in a table.
use Rattle.std.specs.Prelude.{ℕ, ◌≡◌, ◌<◌, List, slice_index_or}
use Rattle.regalloc2_names.specs.Register.{VirtualRegister}

-- one of the first labels names a vreg of the number
abbrev pub NamedAmong : List (VirtualRegister × ℕ × ℕ × ℕ) → ℕ → ℕ → Type 0
NamedAmong labels count n = (j : ℕ) × (l : VirtualRegister × ℕ × ℕ × ℕ) × (j < count) × (slice_index_or labels j l ≡ l) × (l.0.number ≡ n)
