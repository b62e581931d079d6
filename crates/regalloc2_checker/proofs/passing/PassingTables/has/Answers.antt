use Rattle.std.proofs.Common.{◌<◌, length, ap, sym, ◌∙◌, subst}
use Rattle.regalloc2_checker.specs.Holding.{holds_now}
use Rattle.regalloc2_checker.specs.Showing.{Showing, bare, read_as}
use Rattle.regalloc2_checker.proofs.passing.PassingTables.has.Goals as goal

pub has-requires : goal.has-requires
has-requires g c = subst (λ (o : Showing). c.args.place < length o.places) (sym c.self.view_is) c.requires

pub returns : goal.returns
returns g c =
    c.has.ensures ∙ ap (holds_now c.self.inside.tables c.args.place) c.read.ensures
    ∙ ap (λ (o : Showing). holds_now (bare o) c.args.place (read_as c.args.self.now.vregs c.args.self.now.passed c.args.bits)) c.self.view_is
