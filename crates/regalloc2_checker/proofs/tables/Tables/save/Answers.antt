use Rattle.std.proofs.Common.{ℕ, ◌≡◌, ◌<◌, List, length, get_or, ap, sym, ◌∙◌, subst, nat_eq}
use Rattle.std.specs.Prelude.{if◌then◌else◌}
use Rattle.regalloc2_checker_sets.specs.EntrySets.{is_member}
use Rattle.regalloc2_checker.specs.Holding.{Holding, holds_now, holds_in, count_of}
use Rattle.regalloc2_checker_sets.proofs.Results.{on_ok_as}
use Rattle.regalloc2_checker.proofs.TableLaws.{homes-saved-all, now-saved, save-all, save-in}
use Rattle.regalloc2_checker.proofs.tables.Tables.save.Goals as goal

pub invariant_of-self : goal.invariant_of-self
invariant_of-self g c =
    let old : Holding = record {
      places = c.self.inside.places;
      vregs = c.self.inside.vregs;
      entries = c.self.inside.entries;
      sets = c.self.inside.sets;
      homes = c.self.inside.homes;
    } in
    save-all (record old { homes = c.save_added.new.self }) c.save.new.self c.args.table c.save.result
    (homes-saved-all old c.save_added.new.self c.self.invariant c.save_added.ensures.long c.save_added.ensures.saved)
    (now-saved old c.save_added.new.self c.self.invariant c.save_added.ensures.saved) c.save.ensures.cells c.save.ensures.others c.save.ensures.saved
    c.save.ensures.err

pub returns-clause-places : goal.returns-clause-places
returns-clause-places g c = ap (λ (o : Holding). o.places) c.self.view_is

pub returns-clause-vregs : goal.returns-clause-vregs
returns-clause-vregs g c = ap (λ (o : Holding). o.vregs) c.self.view_is

pub returns-clause-count : goal.returns-clause-count
returns-clause-count g c = c.save.ensures.count ∙ ap (λ (o : Holding). count_of o) c.self.view_is

pub returns-clause-now : goal.returns-clause-now
returns-clause-now g c i y l =
    ap (λ (cs : List ℕ). is_member c.self.inside.sets (get_or cs i 0) y) c.save.ensures.cells ∙ ap (λ (o : Holding). holds_now o i y) c.self.view_is

pub returns-clause-tables : goal.returns-clause-tables
returns-clause-tables g c =
    let old : Holding = record {
      places = c.self.inside.places;
      vregs = c.self.inside.vregs;
      entries = c.self.inside.entries;
      sets = c.self.inside.sets;
      homes = c.self.inside.homes;
    } in
    on_ok_as _ _ c.save.result
    (λ ok. subst (λ (o : Holding). (k i y : ℕ) → i < length o.places → holds_in (record old { entries = c.save.new.self }) k i y
    ≡ (if nat_eq k c.args.table then holds_now o i y else holds_in o k i y)) c.self.view_is
    (save-in old c.save.new.self c.args.table c.self.invariant c.save.ensures.others ok)) c.save.ensures.saved

pub save-requires : goal.save-requires
save-requires g c = subst (λ (o : Holding). c.args.table < count_of o) (sym c.self.view_is) c.requires
