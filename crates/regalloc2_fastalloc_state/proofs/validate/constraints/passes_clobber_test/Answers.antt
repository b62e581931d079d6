use Rattle.std.proofs.Common.{ap, ◌∙◌, sym}
use Rattle.regalloc2_names.specs.Register.{has_register}
use Rattle.regalloc2_fastalloc_state.proofs.validate.constraints.passes_clobber_test.Goals as goal

pub returns-then-eq : goal.returns-then-eq
returns-then-eq g c = (
  λ t. λ k lt r is why. ap (λ s. has_register s r) (sym c.inst_clobbers.ensures) ∙ c.eq.ensures.members.0 c.if-eq.true r ∙ c.empty.ensures.none r,
  λ h. c.if-eq.true,
)
