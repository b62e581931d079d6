use Rattle.std.proofs.Common.{refl, inr, true}
use Rattle.std.proofs.lemmas.Result.{IfErr-weaker}
use Rattle.regalloc2_fastalloc_state.proofs.ValidateLemmas.ValidatedProof.{on_ok_any, on_ok_if}
use Rattle.regalloc2_fastalloc_state.proofs.validate.constraints.validate_fixed.Goals as goal

pub returns-clause-reuses : goal.returns-clause-reuses
returns-clause-reuses g c = on_ok_any c.validate_clobbers.result (c.in_ok-validate_reuses.ensures.ok.0 (refl {a = true}))

pub returns-clause-fixed : goal.returns-clause-fixed
returns-clause-fixed g c = on_ok_if c.validate_clobbers.result (c.validate_clobbers.ensures.ok.0)

pub returns-clause-refused : goal.returns-clause-refused
returns-clause-refused g c = IfErr-weaker c.validate_clobbers.result _ _ (λ e h. (h.0, h.1, inr (c.in_ok-validate_reuses.ensures.ok.0 (refl {a = true}), h.2)))
    c.validate_clobbers.ensures.first
