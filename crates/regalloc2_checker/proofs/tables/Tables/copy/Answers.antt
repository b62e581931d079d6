use Rattle.std.proofs.Common.{◌<◌, length, arith, ap, sym, ◌∙◌, refl, subst, nat_eq}
use Rattle.std.specs.Prelude.{if◌then◌else◌}
use Rattle.regalloc2_checker_sets.specs.EntrySets.{is_member}
use Rattle.regalloc2_checker.specs.Holding.{Holding, holds_now, AreKeptTables, HoldsNow}
use Rattle.regalloc2_checker_sets.proofs.Bits.{same-sets}
use Rattle.regalloc2_checker.proofs.TableLaws.{more-all, put-all}
use Rattle.regalloc2_checker.proofs.TableLaws.{get-below}
use Rattle.regalloc2_checker.proofs.tables.Tables.copy.Goals as goal

pub get-set-requires : goal.get-set-requires
get-set-requires g c =
    let less : c.args.from < length c.self.inside.places = subst (λ (o : Holding). c.args.from < length o.places) (sym c.self.view_is) c.requires.from in
    omega (arith, less, c.self.invariant.long)

pub note_set-requires : goal.note_set-requires
note_set-requires g c =
    let old : Holding = record {
      places = c.self.inside.places;
      vregs = c.self.inside.vregs;
      entries = c.self.inside.entries;
      sets = c.self.inside.sets;
      homes = c.self.inside.homes;
    } in
    let less : c.args.to < length c.self.inside.places = subst (λ (o : Holding). c.args.to < length o.places) (sym c.self.view_is) c.requires.to in
    record {
      rising = c.self.invariant.vregs_rise;
      homes = c.self.invariant.homes_long;
      set = get-below old c.args.from c.get-set.result c.self.invariant
          (subst (λ (o : Holding). c.args.from < length o.places) (sym c.self.view_is) c.requires.from) c.get-set.ensures;
      empty = c.self.invariant.empty.members;
      place = omega (arith, less, c.self.invariant.few);
    }

pub invariant_of-self : goal.invariant_of-self
invariant_of-self g c =
    let old : Holding = record {
      places = c.self.inside.places;
      vregs = c.self.inside.vregs;
      entries = c.self.inside.entries;
      sets = c.self.inside.sets;
      homes = c.self.inside.homes;
    } in
    (more-all old c.self.inside.sets c.note_set.new.homes c.self.invariant (same-sets c.self.inside.sets c.self.inside.sets refl)
    c.in_err-note_set.ensures.more).tables

pub returns-in_err-note_set-clause-kept : goal.returns-in_err-note_set-clause-kept
returns-in_err-note_set-clause-kept g c =
    let old : Holding = record {
      places = c.self.inside.places;
      vregs = c.self.inside.vregs;
      entries = c.self.inside.entries;
      sets = c.self.inside.sets;
      homes = c.self.inside.homes;
    } in
    subst (λ (o : Holding). AreKeptTables o (record old { homes = c.note_set.new.homes })) c.self.view_is
    (more-all old c.self.inside.sets c.note_set.new.homes c.self.invariant (same-sets c.self.inside.sets c.self.inside.sets refl)
    c.in_err-note_set.ensures.more).kept

pub set-requires : goal.set-requires
set-requires g c =
    let less : c.args.to < length c.self.inside.places = subst (λ (o : Holding). c.args.to < length o.places) (sym c.self.view_is) c.requires.to in
    omega (arith, less, c.self.invariant.long)

pub invariant_of-self-2 : goal.invariant_of-self-2
invariant_of-self-2 g c =
    let old : Holding = record {
      places = c.self.inside.places;
      vregs = c.self.inside.vregs;
      entries = c.self.inside.entries;
      sets = c.self.inside.sets;
      homes = c.self.inside.homes;
    } in
    (put-all old c.note_set.new.homes c.args.to c.get-set.result c.set.new.self c.self.invariant
    (subst (λ (o : Holding). c.args.to < length o.places) (sym c.self.view_is) c.requires.to)
    (get-below old c.args.from c.get-set.result c.self.invariant (subst (λ (o : Holding). c.args.from < length o.places) (sym c.self.view_is) c.requires.from)
    c.get-set.ensures) c.in_ok-note_set.ensures.more c.in_ok-note_set.ensures.noted c.set.ensures).tables

pub returns-clause-kept : goal.returns-clause-kept
returns-clause-kept g c =
    let old : Holding = record {
      places = c.self.inside.places;
      vregs = c.self.inside.vregs;
      entries = c.self.inside.entries;
      sets = c.self.inside.sets;
      homes = c.self.inside.homes;
    } in
    subst (λ (o : Holding). AreKeptTables o (record old { entries = c.set.new.self; homes = c.note_set.new.homes })) c.self.view_is
    (put-all old c.note_set.new.homes c.args.to c.get-set.result c.set.new.self c.self.invariant
    (subst (λ (o : Holding). c.args.to < length o.places) (sym c.self.view_is) c.requires.to)
    (get-below old c.args.from c.get-set.result c.self.invariant (subst (λ (o : Holding). c.args.from < length o.places) (sym c.self.view_is) c.requires.from)
    c.get-set.ensures) c.in_ok-note_set.ensures.more c.in_ok-note_set.ensures.noted c.set.ensures).kept

pub returns-clause-now : goal.returns-clause-now
returns-clause-now g c =
    let old : Holding = record {
      places = c.self.inside.places;
      vregs = c.self.inside.vregs;
      entries = c.self.inside.entries;
      sets = c.self.inside.sets;
      homes = c.self.inside.homes;
    } in
    let p = put-all old c.note_set.new.homes c.args.to c.get-set.result c.set.new.self c.self.invariant
    (subst (λ (o : Holding). c.args.to < length o.places) (sym c.self.view_is) c.requires.to)
    (get-below old c.args.from c.get-set.result c.self.invariant (subst (λ (o : Holding). c.args.from < length o.places) (sym c.self.view_is) c.requires.from)
    c.get-set.ensures) c.in_ok-note_set.ensures.more c.in_ok-note_set.ensures.noted c.set.ensures in
    subst (λ (o : Holding). HoldsNow (record old { entries = c.set.new.self; homes = c.note_set.new.homes })
    (λ i y. if nat_eq i c.args.to then holds_now o c.args.from y else holds_now o i y)) c.self.view_is
    (λ i y l. p.now i y l ∙ ap (λ n. if nat_eq i c.args.to then is_member c.self.inside.sets n y else holds_now old i y) c.get-set.ensures)
