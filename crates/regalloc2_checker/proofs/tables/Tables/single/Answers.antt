use Rattle.std.proofs.Common.{get_or, ap, ◌∙◌, subst, nat_eq}
use Rattle.regalloc2_checker.specs.Holding.{Holding, holds_now, AreKeptTables, HoldsNow}
use Rattle.regalloc2_checker_sets.proofs.Bits.{ok-as}
use Rattle.regalloc2_checker.proofs.Holders.{homes-same}
use Rattle.regalloc2_checker.proofs.TableLaws.{more-all}
use Rattle.regalloc2_checker.proofs.TableLaws.{set-as}
use Rattle.regalloc2_checker.proofs.tables.Tables.single.Goals as goal

pub invariant_of-self : goal.invariant_of-self
invariant_of-self g c =
    let old : Holding = record {
      places = c.self.inside.places;
      vregs = c.self.inside.vregs;
      entries = c.self.inside.entries;
      sets = c.self.inside.sets;
      homes = c.self.inside.homes;
    } in
    (more-all old c.single.new.self c.self.inside.homes c.self.invariant c.single.ensures.more (homes-same c.self.inside.homes)).tables

pub returns-clause-kept : goal.returns-clause-kept
returns-clause-kept g c =
    let old : Holding = record {
      places = c.self.inside.places;
      vregs = c.self.inside.vregs;
      entries = c.self.inside.entries;
      sets = c.self.inside.sets;
      homes = c.self.inside.homes;
    } in
    subst (λ (o : Holding). AreKeptTables o (record old { sets = c.single.new.self })) c.self.view_is
    (more-all old c.single.new.self c.self.inside.homes c.self.invariant c.single.ensures.more (homes-same c.self.inside.homes)).kept

pub returns-clause-now : goal.returns-clause-now
returns-clause-now g c =
    let old : Holding = record {
      places = c.self.inside.places;
      vregs = c.self.inside.vregs;
      entries = c.self.inside.entries;
      sets = c.self.inside.sets;
      homes = c.self.inside.homes;
    } in
    subst (λ (o : Holding). HoldsNow (record old { sets = c.single.new.self }) (holds_now o)) c.self.view_is
    (more-all old c.single.new.self c.self.inside.homes c.self.invariant c.single.ensures.more (homes-same c.self.inside.homes)).now

pub returns-clause-set : goal.returns-clause-set
returns-clause-set g c =
    ok-as _ _ c.single.result
    (λ n h. set-as c.single.new.self n _ _ (λ y. ap (λ k. nat_eq y k) (c.number.ensures ∙ ap (λ (o : Holding). get_or o.vregs c.args.vreg 0) c.self.view_is)) h)
    c.single.ensures.found
