use Rattle.std.proofs.Common.{subst}
use Rattle.regalloc2_checker.specs.Holding.{Holding, holds_in, AreKeptTables, HoldsNow}
use Rattle.regalloc2_checker.proofs.TableLaws.{load-all}
use Rattle.regalloc2_checker.proofs.tables.Tables.load.Goals as goal

pub invariant_of-self : goal.invariant_of-self
invariant_of-self g c =
    let old : Holding = record {
      places = c.self.inside.places;
      vregs = c.self.inside.vregs;
      entries = c.self.inside.entries;
      sets = c.self.inside.sets;
      homes = c.self.inside.homes;
    } in
    let all = load-all old c.drop_added.new.self c.load.new.self c.args.table c.self.invariant
    (record { long = c.drop_added.ensures.long; saved = c.drop_added.ensures.saved }) c.load.ensures.count c.load.ensures.saved c.load.ensures.long
    c.load.ensures.loaded in
    all.tables

pub returns-clause-kept : goal.returns-clause-kept
returns-clause-kept g c =
    let old : Holding = record {
      places = c.self.inside.places;
      vregs = c.self.inside.vregs;
      entries = c.self.inside.entries;
      sets = c.self.inside.sets;
      homes = c.self.inside.homes;
    } in
    let all = load-all old c.drop_added.new.self c.load.new.self c.args.table c.self.invariant
    (record { long = c.drop_added.ensures.long; saved = c.drop_added.ensures.saved }) c.load.ensures.count c.load.ensures.saved c.load.ensures.long
    c.load.ensures.loaded in
    subst (λ (o : Holding). AreKeptTables o (record old { entries = c.load.new.self; homes = c.drop_added.new.self })) c.self.view_is all.kept

pub returns-clause-now : goal.returns-clause-now
returns-clause-now g c =
    let old : Holding = record {
      places = c.self.inside.places;
      vregs = c.self.inside.vregs;
      entries = c.self.inside.entries;
      sets = c.self.inside.sets;
      homes = c.self.inside.homes;
    } in
    let all = load-all old c.drop_added.new.self c.load.new.self c.args.table c.self.invariant
    (record { long = c.drop_added.ensures.long; saved = c.drop_added.ensures.saved }) c.load.ensures.count c.load.ensures.saved c.load.ensures.long
    c.load.ensures.loaded in
    subst (λ (o : Holding). HoldsNow (record old { entries = c.load.new.self; homes = c.drop_added.new.self }) (holds_in o c.args.table)) c.self.view_is
    all.now
