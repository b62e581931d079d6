use Rattle.std.proofs.Common.{◌<◌, length, false, sym, subst, nat_eq}
use Rattle.std.specs.Prelude.{if◌then◌else◌}
use Rattle.regalloc2_checker.specs.Holding.{Holding, holds_now, AreKeptTables, HoldsNow}
use Rattle.regalloc2_checker.proofs.TableLaws.{clear-all}
use Rattle.regalloc2_checker.proofs.tables.Tables.clear.Goals as goal

pub invariant_of-self : goal.invariant_of-self
invariant_of-self g c =
    let old : Holding = record {
      places = c.self.inside.places;
      vregs = c.self.inside.vregs;
      entries = c.self.inside.entries;
      sets = c.self.inside.sets;
      homes = c.self.inside.homes;
    } in
    (clear-all old c.args.place c.set.new.self c.self.invariant (subst (λ (o : Holding). c.args.place < length o.places) (sym c.self.view_is) c.requires)
    c.set.ensures).tables

pub returns-clause-kept : goal.returns-clause-kept
returns-clause-kept g c =
    let old : Holding = record {
      places = c.self.inside.places;
      vregs = c.self.inside.vregs;
      entries = c.self.inside.entries;
      sets = c.self.inside.sets;
      homes = c.self.inside.homes;
    } in
    subst (λ (o : Holding). AreKeptTables o (record old { entries = c.set.new.self })) c.self.view_is
    (clear-all old c.args.place c.set.new.self c.self.invariant (subst (λ (o : Holding). c.args.place < length o.places) (sym c.self.view_is) c.requires)
    c.set.ensures).kept

pub returns-clause-now : goal.returns-clause-now
returns-clause-now g c =
    let old : Holding = record {
      places = c.self.inside.places;
      vregs = c.self.inside.vregs;
      entries = c.self.inside.entries;
      sets = c.self.inside.sets;
      homes = c.self.inside.homes;
    } in
    subst (λ (o : Holding). HoldsNow (record old { entries = c.set.new.self }) (λ i y. if nat_eq i c.args.place then false else holds_now o i y)) c.self.view_is
    (clear-all old c.args.place c.set.new.self c.self.invariant (subst (λ (o : Holding). c.args.place < length o.places) (sym c.self.view_is) c.requires)
    c.set.ensures).now
