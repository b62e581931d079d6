use Rattle.std.proofs.Common.{ℕ, ◌≡◌, ◌<◌, List, length, Bool, true, ap, sym, ◌∙◌, subst}
use Rattle.std.specs.Prelude.{Option, Some, Contains, ◌↔◌}
use Rattle.std.specs.List.Sorted.{IsStrictlyIncreasing}
use Rattle.regalloc2_checker.specs.Holding.{holds_now}
use Rattle.regalloc2_checker.specs.Showing.{Showing, read_as, shows_now}
use Rattle.regalloc2_checker.specs.declared.passing.Passed.{Passed}
use Rattle.regalloc2_checker.proofs.Shown.{read-none, shown-members}
use Rattle.regalloc2_checker.proofs.passing.PassingTables.members.Goals as goal

pub members-requires : goal.members-requires
members-requires g c = subst (λ (o : Showing). c.args.place < length o.places) (sym c.self.view_is) c.requires

pub returns-in_default-clause-members : goal.returns-in_default-clause-members
returns-in_default-clause-members g c y =
    subst (λ (b : Bool). Contains c.in_ok-held.held.items y ↔ (b ≡ true))
    (ap (holds_now c.self.inside.tables c.args.place) (sym (read-none c.self.inside.tables.vregs y))
    ∙ ap (λ (o : Option Passed). holds_now c.self.inside.tables c.args.place (read_as c.self.inside.tables.vregs o y)) (sym c.in_default.is)
    ∙ ap (λ (o : Showing). shows_now o c.args.place y) c.self.view_is) (c.in_ok-held.ensures.members y)

pub bits-parameter-requires : goal.bits-parameter-requires
bits-parameter-requires g c = (c.self.invariant.now c.in-Some.passed c.in-Some.is).0

pub bits-argument-requires : goal.bits-argument-requires
bits-argument-requires g c = (c.self.invariant.now c.in-Some.passed c.in-Some.is).1

pub has-is_in-requires : goal.has-is_in-requires
has-is_in-requires g c = subst (λ (o : Showing). c.args.place < length o.places) (sym c.self.view_is) c.requires

pub returns-clause-rising : goal.returns-clause-rising
returns-clause-rising g c = subst IsStrictlyIncreasing (sym c.into_numbers.ensures) c.of.ensures.rising

pub returns-clause-members : goal.returns-clause-members
returns-clause-members g c y =
    let shown = shown-members c.self.inside.tables c.in-Some.passed c.args.place c.deref.result.now c.in_ok-shown.shown.items c.has-is_in.result
    (λ n. subst (λ (l : List ℕ). Contains l n ↔ (holds_now c.self.inside.tables c.args.place n ≡ true)) (sym c.deref.ensures.value)
    (c.in_ok-held.ensures.members n))
    (c.has-is_in.ensures ∙ ap (holds_now c.self.inside.tables c.args.place) c.bits-argument.ensures)
    (subst (λ n. Contains c.in_ok-shown.shown.items n ↔ (c.has-is_in.result ≡ true)) c.bits-parameter.ensures c.in_ok-shown.ensures.here)
    (subst (λ n. (z : ℕ) → (z ≡ n → ⊥) → Contains c.in_ok-shown.shown.items z ↔ Contains c.deref.result.now z) c.bits-parameter.ensures
    c.in_ok-shown.ensures.others) y in
    let same : holds_now c.self.inside.tables c.args.place (read_as c.self.inside.tables.vregs (Some c.in-Some.passed) y) ≡ shows_now c.args.self.now
    c.args.place y =
    ap (λ (o : Option Passed). holds_now c.self.inside.tables c.args.place (read_as c.self.inside.tables.vregs o y)) (sym c.in-Some.is)
    ∙ ap (λ (o : Showing). shows_now o c.args.place y) c.self.view_is in
    let all = c.of.ensures.members y in
    subst (λ (l : List ℕ). Contains l y ↔ (shows_now c.args.self.now c.args.place y ≡ true)) (sym c.into_numbers.ensures)
    (λ d. sym same ∙ shown.0 (all.0 d), λ d. all.1 (shown.1 (same ∙ d)))

pub returns-in_default-clause-rising : goal.returns-in_default-clause-rising
returns-in_default-clause-rising g c = c.in_ok-held.ensures.rising
