-- The text of what a check found: the first error, and how many more there are.
use Rattle.std.specs.Prelude.{ℕ, nat_eq, if◌then◌else◌, codes, List, [], ◌∷◌, ◌++◌, length}
use Rattle.std.specs.Fmt.{decimal}
use Rattle.regalloc2_checker.specs.declared.errors.CheckerError.{CheckerError}
use Rattle.regalloc2_checker.specs.Text.{error_text}

-- the number of errors after the first, as , and 2 more faults
abbrev pub more_text : ℕ → List ℕ
more_text n = if nat_eq n 0 then [] else (if nat_eq n 1 then codes ", and 1 more fault" else codes ", and " ++ decimal n ++ codes " more faults")

abbrev pub errors_text : {A : Type 0} → List (CheckerError A) → List ℕ
errors_text [] = []
errors_text (e ∷ es) = error_text e ++ more_text (length es)
