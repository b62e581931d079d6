use Rattle.std.proofs.Common.{◌∙◌, ap, nat_eq}
use Rattle.std.specs.List.{position}
use Rattle.regalloc2_checker.specs.Showing.{Showing}
use Rattle.regalloc2_checker.proofs.passing.PassingTables.vreg.Goals as goal

pub returns : goal.returns
returns g c = c.vreg.ensures ∙ ap (λ (o : Showing). position (λ n. nat_eq n c.args.bits) o.vregs) c.self.view_is
