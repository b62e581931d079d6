-- The lines of errors.
use Rattle.std.specs.Prelude.{ℕ, ◌≤◌}
use Rattle.regalloc2_text.specs.declared.cursor.error.TextError.{TextError}
use Rattle.regalloc2_text.specs.declared.cursor.error.TextError.TheVariants.{Fault, Memory}

-- an error is on a line from `first` to `last`
abbrev pub IsOnLineBetween : ℕ → ℕ → TextError → Type 0
IsOnLineBetween first last (Fault f) = (first ≤ f.line) × (f.line ≤ last)
IsOnLineBetween first last Memory = Unit {0}
