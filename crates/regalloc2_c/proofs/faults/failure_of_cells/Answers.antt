use Rattle.std.proofs.Common.{inr, refl, ap, ◌∙◌, ◌++◌}
use Rattle.regalloc2_c.proofs.faults.failure_of_cells.Goals as goal

pub returns-in-Ok : goal.returns-in-Ok
returns-in-Ok c =
    inr (
      c.in_default.not-Memory,
      c.push_words.new.to,
      refl,
      c.in-Ok.ensures ∙ ap (λ xs. xs ++ c.words_of_cells.result) c.new-words.ensures.items ∙ c.words_of_cells.ensures,
    )
