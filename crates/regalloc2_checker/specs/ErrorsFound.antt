-- What a check found.
use Rattle.std.specs.Prelude.{List}
use Rattle.regalloc2_checker.specs.declared.errors.CheckerError.{CheckerError}
use Rattle.regalloc2_checker.specs.declared.errors.CheckerErrors.{CheckerErrors}

-- the errors, in their order
abbrev pub errors_of : {A : Type 0} → CheckerErrors A → List (CheckerError A)
errors_of es = es.errors.items
