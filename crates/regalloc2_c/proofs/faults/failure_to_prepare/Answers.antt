use Rattle.std.proofs.Common.{inr, refl, ap, ◌∙◌, ◌++◌}
use Rattle.regalloc2_c.specs.Faults.{malformed_words}
use Rattle.regalloc2_c.proofs.faults.failure_to_prepare.Goals as goal

pub returns-in-Ok : goal.returns-in-Ok
returns-in-Ok c =
    inr (c.in_default.not-Memory, inr (c.push_words.new.to, refl, c.in-Ok.ensures ∙ ap (λ xs. xs ++ malformed_words) c.new-words.ensures.items))
