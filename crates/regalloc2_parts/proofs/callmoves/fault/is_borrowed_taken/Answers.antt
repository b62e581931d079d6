use Rattle.std.proofs.lemmas.Bool.{false≢true}
use Rattle.std.proofs.Common.{inl, inr, sym, ◌∙◌, ⊎_elim}
use Rattle.regalloc2_parts.proofs.callmoves.fault.is_borrowed_taken.Goals as goal

pub returns-then-is_free-clause-yes : goal.returns-then-is_free-clause-yes
returns-then-is_free-clause-yes g c = λ e. inl (c.is_free.ensures.yes c.if-is_free.true)

pub returns-then-is_free-clause-no : goal.returns-then-is_free-clause-no
returns-then-is_free-clause-no g c = λ e. absurd (false≢true (sym e ∙ c.if-is_free.true))

pub returns-else-is_free-clause-yes : goal.returns-else-is_free-clause-yes
returns-else-is_free-clause-yes g c = λ e. inr (sym c.contains.ensures.member ∙ e)

pub returns-else-is_free-clause-no : goal.returns-else-is_free-clause-no
returns-else-is_free-clause-no g c = λ e x. ⊎_elim (λ a. c.is_free.ensures.no c.if-is_free.false a) (λ b. false≢true (sym e ∙ c.contains.ensures.member ∙ b)) x
