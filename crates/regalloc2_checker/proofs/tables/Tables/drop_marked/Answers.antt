use Rattle.std.proofs.Common.{ℕ, ◌≡◌, ◌<◌, arith, false, length, get_or, ap, ◌∙◌, subst}
use Rattle.regalloc2_checker_sets.specs.EntrySets.{is_member}
use Rattle.regalloc2_checker_sets.specs.SavedNumbers.{IsWithout}
use Rattle.regalloc2_checker.specs.Holding.{Holding, count_of, holds_in}
use Rattle.regalloc2_checker.proofs.Dropped.{sound-kept, sound-without, held-without}
use Rattle.regalloc2_checker_sets.proofs.Results.{on_ok_as}
use Rattle.regalloc2_checker.proofs.UnusedSets.{sets-sound, members-sound, members-kept}
use Rattle.regalloc2_checker.proofs.tables.Tables.drop_marked.Goals as goal

pub without-requires : goal.without-requires
without-requires g c = omega (arith, c.self.invariant.long)

pub invariant_of-self : goal.invariant_of-self
invariant_of-self g c =
    let old : Holding = record {
      places = c.self.inside.places;
      vregs = c.self.inside.vregs;
      entries = c.self.inside.entries;
      sets = c.self.inside.sets;
      homes = c.self.inside.homes;
    } in
    sound-kept old c.without.new.self c.self.invariant c.without.ensures.saved c.without.ensures.long c.without.ensures.array

pub drop_unused_sets-requires-clause-below : goal.drop_unused_sets-requires-clause-below
drop_unused_sets-requires-clause-below g c =
    let old : Holding = record {
      places = c.self.inside.places;
      vregs = c.self.inside.vregs;
      entries = c.self.inside.entries;
      sets = c.self.inside.sets;
      homes = c.self.inside.homes;
    } in
    let sound = sound-kept old c.without.new.self c.self.invariant c.without.ensures.saved c.without.ensures.long c.without.ensures.array in
    sets-sound (record old { entries = c.without.new.self }) sound

pub invariant_of-self-in_default : goal.invariant_of-self-in_default
invariant_of-self-in_default g c =
    let old : Holding = record {
      places = c.self.inside.places;
      vregs = c.self.inside.vregs;
      entries = c.self.inside.entries;
      sets = c.self.inside.sets;
      homes = c.self.inside.homes;
    } in
    let sound = sound-kept old c.without.new.self c.self.invariant c.without.ensures.saved c.without.ensures.long c.without.ensures.array in
    members-sound (record old { entries = c.without.new.self }) c.drop_unused_sets.new.sets c.drop_unused_sets.new.entries sound
    c.drop_unused_sets.ensures.same

pub returns-in_default-clause-tables : goal.returns-in_default-clause-tables
returns-in_default-clause-tables g c =
    let old : Holding = record {
      places = c.self.inside.places;
      vregs = c.self.inside.vregs;
      entries = c.self.inside.entries;
      sets = c.self.inside.sets;
      homes = c.self.inside.homes;
    } in
    let sound = sound-kept old c.without.new.self c.self.invariant c.without.ensures.saved c.without.ensures.long c.without.ensures.array in
    let kept = members-kept (record old { entries = c.without.new.self }) c.drop_unused_sets.new.sets c.drop_unused_sets.new.entries sound
    c.drop_unused_sets.ensures.same in
    on_ok_as _ _ c.drop_unused_sets.result
    (λ u. subst (λ (o : Holding). (k i y : ℕ) → k < count_of o → get_or c.args.marks.now k false ≡ false → i < length o.places →
    holds_in (record old { entries = c.drop_unused_sets.new.entries; sets = c.drop_unused_sets.new.sets }) k i y ≡ holds_in o k i y)
    c.self.view_is
    (λ k i y l unset less. kept.tables k i y less ∙ ap (λ x. is_member c.self.inside.sets x y) (c.without.ensures.saved k i)))
    c.drop_unused_sets.ensures.used

pub drop_unused_sets-requires-2-clause-below : goal.drop_unused_sets-requires-2-clause-below
drop_unused_sets-requires-2-clause-below g c =
    let old : Holding = record {
      places = c.self.inside.places;
      vregs = c.self.inside.vregs;
      entries = c.self.inside.entries;
      sets = c.self.inside.sets;
      homes = c.self.inside.homes;
    } in
    let w : IsWithout c.args.marks.now c.self.inside.entries c.in-Some.entries = rw c.in-Some.is at c.in_ok-entries.ensures.without in
    let sound = sound-without old c.in-Some.entries c.args.marks.now c.self.invariant w in
    sets-sound (record old { entries = c.in-Some.entries }) sound

pub invariant_of-self-2 : goal.invariant_of-self-2
invariant_of-self-2 g c =
    let old : Holding = record {
      places = c.self.inside.places;
      vregs = c.self.inside.vregs;
      entries = c.self.inside.entries;
      sets = c.self.inside.sets;
      homes = c.self.inside.homes;
    } in
    let w : IsWithout c.args.marks.now c.self.inside.entries c.in-Some.entries = rw c.in-Some.is at c.in_ok-entries.ensures.without in
    let sound = sound-without old c.in-Some.entries c.args.marks.now c.self.invariant w in
    members-sound (record old { entries = c.in-Some.entries }) c.drop_unused_sets-2.new.sets c.drop_unused_sets-2.new.entries sound c.drop_unused_sets-2.ensures.same

pub returns-clause-tables : goal.returns-clause-tables
returns-clause-tables g c =
    let old : Holding = record {
      places = c.self.inside.places;
      vregs = c.self.inside.vregs;
      entries = c.self.inside.entries;
      sets = c.self.inside.sets;
      homes = c.self.inside.homes;
    } in
    let w : IsWithout c.args.marks.now c.self.inside.entries c.in-Some.entries = rw c.in-Some.is at c.in_ok-entries.ensures.without in
    let sound = sound-without old c.in-Some.entries c.args.marks.now c.self.invariant w in
    let kept = members-kept (record old { entries = c.in-Some.entries }) c.drop_unused_sets-2.new.sets c.drop_unused_sets-2.new.entries sound
    c.drop_unused_sets-2.ensures.same in
    on_ok_as _ _ c.drop_unused_sets-2.result
    (λ u. subst (λ (o : Holding). (k i y : ℕ) → k < count_of o → get_or c.args.marks.now k false ≡ false → i < length o.places →
    holds_in (record old { entries = c.drop_unused_sets-2.new.entries; sets = c.drop_unused_sets-2.new.sets }) k i y ≡ holds_in o k i y) c.self.view_is
    (λ k i y l unset less. kept.tables k i y less ∙ held-without old c.in-Some.entries c.args.marks.now c.self.invariant w k i y l unset less))
    c.drop_unused_sets-2.ensures.used
