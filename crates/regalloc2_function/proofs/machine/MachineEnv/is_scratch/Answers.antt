use Rattle.std.proofs.Common.{rules, sym, tests, ◌∙◌}
use Rattle.std.proofs.lemmas.Bool.{false≢true}
use Rattle.regalloc2_function.proofs.Tests.{none_is_not_some}
use Rattle.regalloc2_function.proofs.machine.MachineEnv.is_scratch.Goals as goal

pub returns-in-Some : goal.returns-in-Some
returns-in-Some g c = (
  λ yes. search (rules, tests),
  λ is. search (rules, tests),
)

pub returns-in-None : goal.returns-in-None
returns-in-None g c = (
  λ h. absurd (false≢true h),
  λ is. absurd (none_is_not_some c.args.reg (sym c.in-None.is ∙ c.scratch.ensures ∙ is)),
)
