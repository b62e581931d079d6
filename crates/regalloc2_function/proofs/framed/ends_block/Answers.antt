use Rattle.std.proofs.Common.{sym, ◌∙◌, inl, inr}
use Rattle.std.proofs.lemmas.Bool.{false≢true, not-true, not_from_false}
use Rattle.std.proofs.lemmas.Bool.Decides.{Decides-eqb}
use Rattle.regalloc2_function.proofs.framed.ends_block.Goals as goal

pub returns-then-is_branch : goal.returns-then-is_branch
returns-then-is_branch g c = (
  λ h. inl (sym c.is_branch.ensures ∙ c.if-is_branch.true, sym c.is_ret-is_ret.ensures ∙ not-true _ h),
  λ e. elim e [
    | inl b ↦ not_from_false _ (c.is_ret-is_ret.ensures ∙ b.1)
    | inr r ↦ absurd (false≢true (sym r.0 ∙ sym c.is_branch.ensures ∙ c.if-is_branch.true))
  ],
)

pub returns-then-is_ret : goal.returns-then-is_ret
returns-then-is_ret g c = (
  λ h. inr
      (sym c.is_branch.ensures ∙ c.if-is_branch.false, sym c.is_ret-is_ret.ensures ∙ c.if-is_ret.true, (Decides-eqb c.args.succs 0).0 h),
  λ e. elim e [
    | inl b ↦ absurd (false≢true (sym c.if-is_branch.false ∙ c.is_branch.ensures ∙ b.0))
    | inr r ↦ (Decides-eqb c.args.succs 0).1 r.2
  ],
)

pub returns-else-is_ret : goal.returns-else-is_ret
returns-else-is_ret g c = (
  λ h. absurd (false≢true (sym c.if-is_ret.false ∙ h)),
  λ e. elim e [
    | inl b ↦ absurd (false≢true (sym c.if-is_branch.false ∙ c.is_branch.ensures ∙ b.0))
    | inr r ↦ c.is_ret-is_ret.ensures ∙ r.1
  ],
)
