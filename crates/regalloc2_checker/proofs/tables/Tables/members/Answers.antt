use Rattle.std.proofs.Common.{ℕ, ◌≡◌, ◌<◌, List, length, true, ap, sym, ◌∙◌, subst}
use Rattle.regalloc2_checker_sets.specs.EntrySets.{is_member}
use Rattle.regalloc2_checker.specs.Holding.{Holding, holds_now}
use Rattle.regalloc2_checker.proofs.TableLaws.{get-below}
use Rattle.std.proofs.Common.{Bool}
use Rattle.std.specs.Prelude.{Contains, ◌↔◌}
use Rattle.std.specs.List.Sorted.{IsStrictlyIncreasing}
use Rattle.regalloc2_checker.proofs.Times.{members-are}
use Rattle.regalloc2_checker.proofs.tables.Tables.members.Goals as goal

pub members-requires : goal.members-requires
members-requires g c =
    let old : Holding = record {
      places = c.self.inside.places;
      vregs = c.self.inside.vregs;
      entries = c.self.inside.entries;
      sets = c.self.inside.sets;
      homes = c.self.inside.homes;
    } in
    get-below old c.args.place c.get.result c.self.invariant (subst (λ (o : Holding). c.args.place < length o.places) (sym c.self.view_is) c.requires)
    c.get.ensures

pub returns-clause-members : goal.returns-clause-members
returns-clause-members g c y =
    subst (λ (b : Bool). Contains c.into_numbers.result.items y ↔ (b ≡ true))
    (ap (λ n. is_member c.self.inside.sets n y) c.get.ensures ∙ ap (λ (o : Holding). holds_now o c.args.place y) c.self.view_is)
    (subst (λ (l : List ℕ). Contains l y ↔ (is_member c.self.inside.sets c.get.result y ≡ true)) (sym c.into_numbers.ensures)
    (members-are (is_member c.self.inside.sets c.get.result) c.in_ok-listed.listed.items c.of.result c.in_ok-listed.ensures c.of.ensures.members y))

pub returns-clause-rising : goal.returns-clause-rising
returns-clause-rising g c = subst IsStrictlyIncreasing (sym c.into_numbers.ensures) c.of.ensures.rising
