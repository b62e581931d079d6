use Rattle.std.proofs.Common.{◌<◌, length, get_or, arith, ap, sym, ◌∙◌, subst, nat_lt}
use Rattle.std.specs.Prelude.{◌&&◌}
use Rattle.regalloc2_checker_sets.specs.Homes.{HomePlaces, no_homes, has_home}
use Rattle.regalloc2_checker.specs.Holding.{Holding, holds_now}
use Rattle.regalloc2_checker_sets.specs.Held.{held}
use Rattle.regalloc2_checker_sets.proofs.Bits.{ok-as}
use Rattle.regalloc2_checker.proofs.TableLaws.{holders-are}
use Rattle.regalloc2_checker.proofs.tables.Tables.holders.Goals as goal

pub at-requires : goal.at-requires
at-requires g c =
    let lv : c.args.vreg < length c.self.inside.vregs = subst (λ (o : Holding). c.args.vreg < length o.vregs) (sym c.self.view_is) c.requires in
    omega (arith, lv, c.self.invariant.homes_long)

pub holders_among-requires-clause-below : goal.holders_among-requires-clause-below
holders_among-requires-clause-below g c = c.self.invariant.now.below

pub returns : goal.returns
returns g c =
    let old : Holding = record {
      places = c.self.inside.places;
      vregs = c.self.inside.vregs;
      entries = c.self.inside.entries;
      sets = c.self.inside.sets;
      homes = c.self.inside.homes;
    } in
    let lv : c.args.vreg < length c.self.inside.vregs = subst (λ (o : Holding). c.args.vreg < length o.vregs) (sym c.self.view_is) c.requires in
    let had = c.at.ensures in
    ok-as _ _ c.holders_among.result
    (λ r h i. holders-are old c.args.vreg r.items c.self.invariant lv
    (λ i. h i ∙ ap (λ (h : HomePlaces). nat_lt i c.len.result && (has_home h i && held c.self.inside.sets c.self.inside.entries i c.number.result)) had
    ∙ ap (λ k. nat_lt i c.len.result && (has_home (get_or c.self.inside.homes c.args.vreg no_homes) i && held c.self.inside.sets c.self.inside.entries i
    k)) c.number.ensures
    ∙ ap (λ k. nat_lt i k && (has_home (get_or c.self.inside.homes c.args.vreg no_homes) i && holds_now old i (get_or c.self.inside.vregs c.args.vreg 0)))
    c.len.ensures) i
    ∙ ap (λ (o : Holding). nat_lt i (length o.places) && holds_now o i (get_or o.vregs c.args.vreg 0)) c.self.view_is) c.holders_among.ensures
