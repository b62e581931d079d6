use Rattle.std.proofs.Common.{ℕ, ◌≡◌, ◌<◌, length, get_or, arith, true, false, ap, sym, ◌∙◌, subst, nat_eq}
use Rattle.std.specs.Prelude.{◌&&◌, if◌then◌else◌}
use Rattle.regalloc2_checker_sets.specs.Homes.{HomePlaces, no_homes, has_home}
use Rattle.regalloc2_checker.specs.Holding.{Holding, holds_now, AreKeptTables, HoldsNow}
use Rattle.regalloc2_checker_sets.specs.Held.{held}
use Rattle.regalloc2_checker.proofs.Holders.{dropped-less}
use Rattle.regalloc2_checker.proofs.TableLaws.{drop-all, drop-kept, drop-now}
use Rattle.regalloc2_checker_sets.proofs.Results.{less_either, on_ok_as}
use Rattle.regalloc2_checker.proofs.tables.Tables.forget.Goals as goal

pub at-requires : goal.at-requires
at-requires g c =
    let lv : c.args.vreg < length c.self.inside.vregs = subst (λ (o : Holding). c.args.vreg < length o.vregs) (sym c.self.view_is) c.requires in
    omega (arith, lv, c.self.invariant.homes_long)

pub drop_everywhere-requires : goal.drop_everywhere-requires
drop_everywhere-requires g c = c.self.invariant.now.below

pub invariant_of-self : goal.invariant_of-self
invariant_of-self g c =
    let old : Holding = record {
      places = c.self.inside.places;
      vregs = c.self.inside.vregs;
      entries = c.self.inside.entries;
      sets = c.self.inside.sets;
      homes = c.self.inside.homes;
    } in
    drop-all old c.drop_everywhere.new.sets c.drop_everywhere.new.entries c.self.invariant c.drop_everywhere.ensures.still
    (less_either _ _ ((i y : ℕ) → i < length c.self.inside.entries.cells → held c.drop_everywhere.new.sets c.drop_everywhere.new.entries i y ≡ true →
    holds_now old i y ≡ true) c.drop_everywhere.result
    (λ ok. dropped-less (held c.self.inside.sets c.self.inside.entries) (held c.drop_everywhere.new.sets c.drop_everywhere.new.entries)
    (λ i. has_home c.at.result i) c.number-bits.result (length c.self.inside.entries.cells) ok)
    (λ err. err) c.drop_everywhere.ensures.ok c.drop_everywhere.ensures.err)

pub returns-clause-kept : goal.returns-clause-kept
returns-clause-kept g c =
    let old : Holding = record {
      places = c.self.inside.places;
      vregs = c.self.inside.vregs;
      entries = c.self.inside.entries;
      sets = c.self.inside.sets;
      homes = c.self.inside.homes;
    } in
    subst (λ (o : Holding). AreKeptTables o (record old { entries = c.drop_everywhere.new.entries; sets = c.drop_everywhere.new.sets })) c.self.view_is
    (drop-kept old c.drop_everywhere.new.sets c.drop_everywhere.new.entries c.self.invariant c.drop_everywhere.ensures.still)

pub returns-clause-now : goal.returns-clause-now
returns-clause-now g c =
    let old : Holding = record {
      places = c.self.inside.places;
      vregs = c.self.inside.vregs;
      entries = c.self.inside.entries;
      sets = c.self.inside.sets;
      homes = c.self.inside.homes;
    } in
    let lv : c.args.vreg < length c.self.inside.vregs = subst (λ (o : Holding). c.args.vreg < length o.vregs) (sym c.self.view_is) c.requires in
    let had = c.at.ensures in
    on_ok_as _ _ c.drop_everywhere.result
    (λ ok. subst (λ (o : Holding). HoldsNow (record old { entries = c.drop_everywhere.new.entries; sets = c.drop_everywhere.new.sets })
    (λ i y. if nat_eq y (get_or o.vregs c.args.vreg 0) then false else holds_now o i y)) c.self.view_is
    (drop-now old c.drop_everywhere.new.sets c.drop_everywhere.new.entries c.args.vreg c.self.invariant lv
    (λ i y l. ok i y l ∙ ap (λ (h : HomePlaces). if has_home h i && nat_eq y c.number-bits.result then false else holds_now old i y) had
    ∙ ap (λ n. if has_home (get_or c.self.inside.homes c.args.vreg no_homes) i && nat_eq y n then false else holds_now old i y) c.number-bits.ensures)))
    c.drop_everywhere.ensures.ok
