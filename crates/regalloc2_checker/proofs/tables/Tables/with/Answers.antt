use Rattle.std.proofs.Common.{◌<◌, length, get_or, true, ap, sym, ◌∙◌, subst, nat_eq}
use Rattle.std.specs.Prelude.{if◌then◌else◌}
use Rattle.regalloc2_checker_sets.specs.EntrySets.{is_member}
use Rattle.regalloc2_checker.specs.Holding.{Holding, holds_now, AreKeptTables, HoldsNow}
use Rattle.regalloc2_checker_sets.proofs.Bits.{ok-as}
use Rattle.regalloc2_checker.proofs.Holders.{homes-same}
use Rattle.regalloc2_checker.proofs.TableLaws.{more-all}
use Rattle.regalloc2_checker.proofs.TableLaws.{get-below, set-as}
use Rattle.regalloc2_checker.proofs.tables.Tables.with.Goals as goal

pub invariant_of-self : goal.invariant_of-self
invariant_of-self g c =
    let old : Holding = record {
      places = c.self.inside.places;
      vregs = c.self.inside.vregs;
      entries = c.self.inside.entries;
      sets = c.self.inside.sets;
      homes = c.self.inside.homes;
    } in
    (more-all old c.with.new.self c.self.inside.homes c.self.invariant c.with.ensures.more (homes-same c.self.inside.homes)).tables

pub returns-clause-kept : goal.returns-clause-kept
returns-clause-kept g c =
    let old : Holding = record {
      places = c.self.inside.places;
      vregs = c.self.inside.vregs;
      entries = c.self.inside.entries;
      sets = c.self.inside.sets;
      homes = c.self.inside.homes;
    } in
    subst (λ (o : Holding). AreKeptTables o (record old { sets = c.with.new.self })) c.self.view_is
    (more-all old c.with.new.self c.self.inside.homes c.self.invariant c.with.ensures.more (homes-same c.self.inside.homes)).kept

pub returns-clause-now : goal.returns-clause-now
returns-clause-now g c =
    let old : Holding = record {
      places = c.self.inside.places;
      vregs = c.self.inside.vregs;
      entries = c.self.inside.entries;
      sets = c.self.inside.sets;
      homes = c.self.inside.homes;
    } in
    subst (λ (o : Holding). HoldsNow (record old { sets = c.with.new.self }) (holds_now o)) c.self.view_is
    (more-all old c.with.new.self c.self.inside.homes c.self.invariant c.with.ensures.more (homes-same c.self.inside.homes)).now

pub with-requires : goal.with-requires
with-requires g c =
    let old : Holding = record {
      places = c.self.inside.places;
      vregs = c.self.inside.vregs;
      entries = c.self.inside.entries;
      sets = c.self.inside.sets;
      homes = c.self.inside.homes;
    } in
    get-below old c.args.place c.get.result c.self.invariant (subst (λ (o : Holding). c.args.place < length o.places) (sym c.self.view_is) c.requires.place)
    c.get.ensures

pub returns-clause-set : goal.returns-clause-set
returns-clause-set g c =
    let old : Holding = record {
      places = c.self.inside.places;
      vregs = c.self.inside.vregs;
      entries = c.self.inside.entries;
      sets = c.self.inside.sets;
      homes = c.self.inside.homes;
    } in
    ok-as _ _ c.with.result
    (λ n h. set-as c.with.new.self n _ _
    (λ y. ap (λ k. if nat_eq y c.number.result then true else is_member c.self.inside.sets k y) c.get.ensures
    ∙ ap (λ k. if nat_eq y k then true else holds_now old c.args.place y) c.number.ensures
    ∙ ap (λ (o : Holding). if nat_eq y (get_or o.vregs c.args.vreg 0) then true else holds_now o c.args.place y) c.self.view_is) h)
    c.with.ensures.found
