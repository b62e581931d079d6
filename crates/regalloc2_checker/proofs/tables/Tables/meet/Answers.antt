use Rattle.std.proofs.Common.{ℕ, ◌≡◌, ◌<◌, length, arith, true, ap, sym, ◌∙◌, subst, nat_eq}
use Rattle.std.specs.Prelude.{◌&&◌, if◌then◌else◌}
use Rattle.regalloc2_checker_sets.specs.SavedNumbers.{copy_count}
use Rattle.regalloc2_checker.specs.Holding.{Holding, holds_now, holds_in, count_of, LosesSome}
use Rattle.regalloc2_checker.proofs.TableLaws.{drop-all}
use Rattle.regalloc2_checker.proofs.TableLaws.{met-saved, save-all, meet-false, meet-true}
use Rattle.regalloc2_checker.proofs.tables.Tables.meet.Goals as goal

pub meet_entries-requires-clause-below : goal.meet_entries-requires-clause-below
meet_entries-requires-clause-below g c = c.self.invariant.now.below

pub meet_entries-requires-clause-saved : goal.meet_entries-requires-clause-saved
meet_entries-requires-clause-saved g c = (c.self.invariant.tables c.args.table).below

pub meet_entries-requires-clause-table : goal.meet_entries-requires-clause-table
meet_entries-requires-clause-table g c = subst (λ (o : Holding). c.args.table < count_of o) (sym c.self.view_is) c.requires

pub save-requires : goal.save-requires
save-requires g c =
    let less : c.args.table < copy_count c.self.inside.entries = subst (λ (o : Holding). c.args.table < count_of o) (sym c.self.view_is) c.requires in
    omega (arith, less, c.in_ok-is_less.ensures.still.count)

pub invariant_of-self : goal.invariant_of-self
invariant_of-self g c =
    let old : Holding = record {
      places = c.self.inside.places;
      vregs = c.self.inside.vregs;
      entries = c.self.inside.entries;
      sets = c.self.inside.sets;
      homes = c.self.inside.homes;
    } in
    drop-all old c.meet_entries.new.sets c.meet_entries.new.entries c.self.invariant c.in_err-is_less.ensures.still c.in_err-is_less.ensures.fewer

pub invariant_of-self-then-not-is_less : goal.invariant_of-self-then-not-is_less
invariant_of-self-then-not-is_less g c =
    let old : Holding = record {
      places = c.self.inside.places;
      vregs = c.self.inside.vregs;
      entries = c.self.inside.entries;
      sets = c.self.inside.sets;
      homes = c.self.inside.homes;
    } in
    drop-all old c.meet_entries.new.sets c.meet_entries.new.entries c.self.invariant c.in_ok-is_less.ensures.still c.in_ok-is_less.ensures.fewer

pub invariant_of-self-in_err-save : goal.invariant_of-self-in_err-save
invariant_of-self-in_err-save g c =
    let old : Holding = record {
      places = c.self.inside.places;
      vregs = c.self.inside.vregs;
      entries = c.self.inside.entries;
      sets = c.self.inside.sets;
      homes = c.self.inside.homes;
    } in
    save-all (record old { entries = c.meet_entries.new.entries; sets = c.meet_entries.new.sets }) c.save.new.self c.args.table c.save.result
    (drop-all old c.meet_entries.new.sets c.meet_entries.new.entries c.self.invariant c.in_ok-is_less.ensures.still c.in_ok-is_less.ensures.fewer)
    (met-saved old c.meet_entries.new.sets c.meet_entries.new.entries c.args.table c.self.invariant c.in_ok-is_less.ensures.still
    (λ i y l. c.in_ok-is_less.ensures.met i y (subst (λ n. i < n) (sym c.len.ensures) l)))
    c.save.ensures.cells c.save.ensures.others c.save.ensures.saved c.save.ensures.err

pub invariant_of-self-2 : goal.invariant_of-self-2
invariant_of-self-2 g c =
    let old : Holding = record {
      places = c.self.inside.places;
      vregs = c.self.inside.vregs;
      entries = c.self.inside.entries;
      sets = c.self.inside.sets;
      homes = c.self.inside.homes;
    } in
    save-all (record old { entries = c.meet_entries.new.entries; sets = c.meet_entries.new.sets }) c.save.new.self c.args.table c.save.result
    (drop-all old c.meet_entries.new.sets c.meet_entries.new.entries c.self.invariant c.in_ok-is_less.ensures.still c.in_ok-is_less.ensures.fewer)
    (met-saved old c.meet_entries.new.sets c.meet_entries.new.entries c.args.table c.self.invariant c.in_ok-is_less.ensures.still
    (λ i y l. c.in_ok-is_less.ensures.met i y (subst (λ n. i < n) (sym c.len.ensures) l)))
    c.save.ensures.cells c.save.ensures.others c.save.ensures.saved c.save.ensures.err

pub returns-in_err-is_less-clause-places : goal.returns-in_err-is_less-clause-places
returns-in_err-is_less-clause-places g c = ap (λ (o : Holding). o.places) c.self.view_is

pub returns-in_err-is_less-clause-vregs : goal.returns-in_err-is_less-clause-vregs
returns-in_err-is_less-clause-vregs g c = ap (λ (o : Holding). o.vregs) c.self.view_is

pub returns-in_err-is_less-clause-count : goal.returns-in_err-is_less-clause-count
returns-in_err-is_less-clause-count g c = c.in_err-is_less.ensures.still.count ∙ ap (λ (o : Holding). count_of o) c.self.view_is

pub returns-then-not-is_less-clause-places : goal.returns-then-not-is_less-clause-places
returns-then-not-is_less-clause-places g c = ap (λ (o : Holding). o.places) c.self.view_is

pub returns-then-not-is_less-clause-vregs : goal.returns-then-not-is_less-clause-vregs
returns-then-not-is_less-clause-vregs g c = ap (λ (o : Holding). o.vregs) c.self.view_is

pub returns-then-not-is_less-clause-count : goal.returns-then-not-is_less-clause-count
returns-then-not-is_less-clause-count g c = c.in_ok-is_less.ensures.still.count ∙ ap (λ (o : Holding). count_of o) c.self.view_is

pub returns-in_err-save-clause-places : goal.returns-in_err-save-clause-places
returns-in_err-save-clause-places g c = ap (λ (o : Holding). o.places) c.self.view_is

pub returns-in_err-save-clause-vregs : goal.returns-in_err-save-clause-vregs
returns-in_err-save-clause-vregs g c = ap (λ (o : Holding). o.vregs) c.self.view_is

pub returns-in_err-save-clause-count : goal.returns-in_err-save-clause-count
returns-in_err-save-clause-count g c = c.save.ensures.count ∙ c.in_ok-is_less.ensures.still.count ∙ ap (λ (o : Holding). count_of o) c.self.view_is

pub returns-clause-places : goal.returns-clause-places
returns-clause-places g c = ap (λ (o : Holding). o.places) c.self.view_is

pub returns-clause-vregs : goal.returns-clause-vregs
returns-clause-vregs g c = ap (λ (o : Holding). o.vregs) c.self.view_is

pub returns-clause-count : goal.returns-clause-count
returns-clause-count g c = c.save.ensures.count ∙ c.in_ok-is_less.ensures.still.count ∙ ap (λ (o : Holding). count_of o) c.self.view_is

pub returns-then-not-is_less-clause-met : goal.returns-then-not-is_less-clause-met
returns-then-not-is_less-clause-met g c =
    let old : Holding = record {
      places = c.self.inside.places;
      vregs = c.self.inside.vregs;
      entries = c.self.inside.entries;
      sets = c.self.inside.sets;
      homes = c.self.inside.homes;
    } in
    subst (λ (o : Holding). (k i y : ℕ) → i < length o.places →
    holds_in (record old { entries = c.meet_entries.new.entries; sets = c.meet_entries.new.sets }) k i y
    ≡ (if nat_eq k c.args.table then holds_in o k i y && holds_now o i y else holds_in o k i y)) c.self.view_is
    (meet-false old c.meet_entries.new.sets c.meet_entries.new.entries c.args.table c.self.invariant c.in_ok-is_less.ensures.still
    (λ i y l is. c.in_ok-is_less.ensures.same c.if-not-is_less.true i y (subst (λ n. i < n) (sym c.len.ensures) l) is))

pub returns-then-not-is_less-clause-same : goal.returns-then-not-is_less-clause-same
returns-then-not-is_less-clause-same g c =
    let old : Holding = record {
      places = c.self.inside.places;
      vregs = c.self.inside.vregs;
      entries = c.self.inside.entries;
      sets = c.self.inside.sets;
      homes = c.self.inside.homes;
    } in
    subst (λ (o : Holding). (i y : ℕ) → i < length o.places → holds_in o c.args.table i y ≡ true → holds_now o i y ≡ true) c.self.view_is
    (λ i y l is. c.in_ok-is_less.ensures.same c.if-not-is_less.true i y (subst (λ n. i < n) (sym c.len.ensures) l) is)

pub returns-clause-met : goal.returns-clause-met
returns-clause-met g c =
    let old : Holding = record {
      places = c.self.inside.places;
      vregs = c.self.inside.vregs;
      entries = c.self.inside.entries;
      sets = c.self.inside.sets;
      homes = c.self.inside.homes;
    } in
    subst (λ (o : Holding). (k i y : ℕ) → i < length o.places → holds_in (record old { entries = c.save.new.self; sets = c.meet_entries.new.sets }) k i y
    ≡ (if nat_eq k c.args.table then holds_in o k i y && holds_now o i y else holds_in o k i y)) c.self.view_is
    (meet-true old c.meet_entries.new.sets c.meet_entries.new.entries c.save.new.self c.args.table c.self.invariant c.in_ok-is_less.ensures.still
    (drop-all old c.meet_entries.new.sets c.meet_entries.new.entries c.self.invariant c.in_ok-is_less.ensures.still c.in_ok-is_less.ensures.fewer)
    c.in_ok-save.ensures.others c.in_ok-save.ensures.saved
    (λ i y l. c.in_ok-is_less.ensures.met i y (subst (λ n. i < n) (sym c.len.ensures) l)))

pub returns-clause-less : goal.returns-clause-less
returns-clause-less g c =
    let old : Holding = record {
      places = c.self.inside.places;
      vregs = c.self.inside.vregs;
      entries = c.self.inside.entries;
      sets = c.self.inside.sets;
      homes = c.self.inside.homes;
    } in
    subst (λ (o : Holding). LosesSome (length o.places) (holds_in o c.args.table) (holds_now o)) c.self.view_is
    (subst (λ n. LosesSome n (holds_in old c.args.table) (holds_now old)) c.len.ensures (c.in_ok-is_less.ensures.less c.if-not-is_less.false))
