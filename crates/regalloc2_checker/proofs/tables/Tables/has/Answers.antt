use Rattle.std.proofs.Common.{◌<◌, length, sym, subst}
use Rattle.regalloc2_checker.specs.Holding.{Holding}
use Rattle.regalloc2_checker.proofs.TableLaws.{get-below}
use Rattle.regalloc2_checker.proofs.tables.Tables.has.Goals as goal

pub has-requires : goal.has-requires
has-requires g c =
    let old : Holding = record {
      places = c.self.inside.places;
      vregs = c.self.inside.vregs;
      entries = c.self.inside.entries;
      sets = c.self.inside.sets;
      homes = c.self.inside.homes;
    } in
    get-below old c.args.place c.get.result c.self.invariant (subst (λ (o : Holding). c.args.place < length o.places) (sym c.self.view_is) c.requires)
    c.get.ensures
