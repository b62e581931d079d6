use Rattle.std.proofs.Common.{ℕ, ◌≡◌, ◌<◌, length, get_or, arith, true, sym, refl, subst, nat_eq}
use Rattle.std.specs.Prelude.{◌||◌, if◌then◌else◌}
use Rattle.regalloc2_checker_sets.specs.EntrySets.{is_member}
use Rattle.regalloc2_checker.specs.Holding.{Holding, holds_now, AreKeptTables, HoldsNow}
use Rattle.regalloc2_checker_sets.proofs.Bits.{same-sets}
use Rattle.regalloc2_checker.proofs.Holders.{home-at}
use Rattle.regalloc2_checker.proofs.TableLaws.{more-all, put-all}
use Rattle.regalloc2_checker.proofs.TableLaws.{put-home}
use Rattle.regalloc2_checker.proofs.tables.Tables.put.Goals as goal

pub add-requires : goal.add-requires
add-requires g c =
    let lv : c.args.vreg < length c.self.inside.vregs = subst (λ (o : Holding). c.args.vreg < length o.vregs) (sym c.self.view_is) c.requires.vreg in
    let lp : c.args.place < length c.self.inside.places = subst (λ (o : Holding). c.args.place < length o.places) (sym c.self.view_is) c.requires.place in
    record { vreg = omega (arith, lv, c.self.invariant.homes_long); place = omega (arith, lp, c.self.invariant.few) }

pub set-requires : goal.set-requires
set-requires g c =
    let lp : c.args.place < length c.self.inside.places = subst (λ (o : Holding). c.args.place < length o.places) (sym c.self.view_is) c.requires.place in
    omega (arith, lp, c.self.invariant.long)

pub invariant_of-self : goal.invariant_of-self
invariant_of-self g c =
    let old : Holding = record {
      places = c.self.inside.places;
      vregs = c.self.inside.vregs;
      entries = c.self.inside.entries;
      sets = c.self.inside.sets;
      homes = c.self.inside.homes;
    } in
    (more-all old c.self.inside.sets c.add.new.self c.self.invariant (same-sets c.self.inside.sets c.self.inside.sets refl)
    c.in_err-add.ensures.more).tables

pub returns-in_err-add-clause-kept : goal.returns-in_err-add-clause-kept
returns-in_err-add-clause-kept g c =
    let old : Holding = record {
      places = c.self.inside.places;
      vregs = c.self.inside.vregs;
      entries = c.self.inside.entries;
      sets = c.self.inside.sets;
      homes = c.self.inside.homes;
    } in
    subst (λ (o : Holding). AreKeptTables o (record old { homes = c.add.new.self })) c.self.view_is
    (more-all old c.self.inside.sets c.add.new.self c.self.invariant (same-sets c.self.inside.sets c.self.inside.sets refl)
    c.in_err-add.ensures.more).kept

pub invariant_of-self-2 : goal.invariant_of-self-2
invariant_of-self-2 g c =
    let old : Holding = record {
      places = c.self.inside.places;
      vregs = c.self.inside.vregs;
      entries = c.self.inside.entries;
      sets = c.self.inside.sets;
      homes = c.self.inside.homes;
    } in
    let lv : c.args.vreg < length c.self.inside.vregs = subst (λ (o : Holding). c.args.vreg < length o.vregs) (sym c.self.view_is) c.requires.vreg in
    let lp : c.args.place < length c.self.inside.places = subst (λ (o : Holding). c.args.place < length o.places) (sym c.self.view_is) c.requires.place in
    let here = home-at c.self.inside.vregs c.add.new.self c.args.vreg c.args.place (get_or c.self.inside.vregs c.args.vreg 0)
    c.self.invariant.vregs_rise lv refl c.in_ok-add.ensures.noted in
    let small = subst (λ (o : Holding). c.args.set < length o.sets) (sym c.self.view_is) c.requires.set in
    let members = subst (λ (o : Holding). (y : ℕ) → is_member o.sets c.args.set y ≡ true
    → (nat_eq y (get_or o.vregs c.args.vreg 0) || holds_now o c.args.place y) ≡ true) (sym c.self.view_is) c.requires.members in
    (put-all old c.add.new.self c.args.place c.args.set c.set.new.self c.self.invariant lp small c.in_ok-add.ensures.more
    (put-home old c.add.new.self c.args.place c.args.vreg c.args.set c.self.invariant lp c.in_ok-add.ensures.more here members)
    c.set.ensures).tables

pub returns-clause-kept : goal.returns-clause-kept
returns-clause-kept g c =
    let old : Holding = record {
      places = c.self.inside.places;
      vregs = c.self.inside.vregs;
      entries = c.self.inside.entries;
      sets = c.self.inside.sets;
      homes = c.self.inside.homes;
    } in
    let lv : c.args.vreg < length c.self.inside.vregs = subst (λ (o : Holding). c.args.vreg < length o.vregs) (sym c.self.view_is) c.requires.vreg in
    let lp : c.args.place < length c.self.inside.places = subst (λ (o : Holding). c.args.place < length o.places) (sym c.self.view_is) c.requires.place in
    let here = home-at c.self.inside.vregs c.add.new.self c.args.vreg c.args.place (get_or c.self.inside.vregs c.args.vreg 0)
    c.self.invariant.vregs_rise lv refl c.in_ok-add.ensures.noted in
    let small = subst (λ (o : Holding). c.args.set < length o.sets) (sym c.self.view_is) c.requires.set in
    let members = subst (λ (o : Holding). (y : ℕ) → is_member o.sets c.args.set y ≡ true
    → (nat_eq y (get_or o.vregs c.args.vreg 0) || holds_now o c.args.place y) ≡ true) (sym c.self.view_is) c.requires.members in
    subst (λ (o : Holding). AreKeptTables o (record old { entries = c.set.new.self; homes = c.add.new.self })) c.self.view_is
    (put-all old c.add.new.self c.args.place c.args.set c.set.new.self c.self.invariant lp small c.in_ok-add.ensures.more
    (put-home old c.add.new.self c.args.place c.args.vreg c.args.set c.self.invariant lp c.in_ok-add.ensures.more here members)
    c.set.ensures).kept

pub returns-clause-now : goal.returns-clause-now
returns-clause-now g c =
    let old : Holding = record {
      places = c.self.inside.places;
      vregs = c.self.inside.vregs;
      entries = c.self.inside.entries;
      sets = c.self.inside.sets;
      homes = c.self.inside.homes;
    } in
    let lv : c.args.vreg < length c.self.inside.vregs = subst (λ (o : Holding). c.args.vreg < length o.vregs) (sym c.self.view_is) c.requires.vreg in
    let lp : c.args.place < length c.self.inside.places = subst (λ (o : Holding). c.args.place < length o.places) (sym c.self.view_is) c.requires.place in
    let here = home-at c.self.inside.vregs c.add.new.self c.args.vreg c.args.place (get_or c.self.inside.vregs c.args.vreg 0)
    c.self.invariant.vregs_rise lv refl c.in_ok-add.ensures.noted in
    let small = subst (λ (o : Holding). c.args.set < length o.sets) (sym c.self.view_is) c.requires.set in
    let members = subst (λ (o : Holding). (y : ℕ) → is_member o.sets c.args.set y ≡ true
    → (nat_eq y (get_or o.vregs c.args.vreg 0) || holds_now o c.args.place y) ≡ true) (sym c.self.view_is) c.requires.members in
    subst (λ (o : Holding). HoldsNow (record old { entries = c.set.new.self; homes = c.add.new.self })
    (λ i y. if nat_eq i c.args.place then is_member o.sets c.args.set y else holds_now o i y)) c.self.view_is
    (put-all old c.add.new.self c.args.place c.args.set c.set.new.self c.self.invariant lp small c.in_ok-add.ensures.more
    (put-home old c.add.new.self c.args.place c.args.vreg c.args.set c.self.invariant lp c.in_ok-add.ensures.more here members)
    c.set.ensures).now
