use Rattle.std.proofs.Common.{ap, ◌∙◌}
use Rattle.std.specs.Prelude.{◌||◌}
use Rattle.regalloc2_names.specs.Register.{has_register}
use Rattle.regalloc2_fastalloc_state.specs.StateParts.{AllocatableRegsValue}
use Rattle.regalloc2_fastalloc_state.proofs.allocatable.AllocatableRegs.available_regs.Goals as goal

pub returns : goal.returns
returns g c r = c.bitor.ensures r ∙ ap (λ (t : AllocatableRegsValue). has_register t.allocatable r || has_register t.fixed_stack r) c.self.view_is
