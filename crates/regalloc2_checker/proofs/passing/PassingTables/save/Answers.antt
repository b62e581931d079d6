use Rattle.std.proofs.Common.{ℕ, ◌≡◌, ◌<◌, length, arith, ap, ◌∙◌, subst, nat_eq}
use Rattle.std.specs.Prelude.{if◌then◌else◌, slice_set}
use Rattle.std.proofs.lemmas.List.{length-set}
use Rattle.regalloc2_checker.specs.Holding.{holds_now}
use Rattle.regalloc2_checker.specs.Showing.{Showing, showing, table_count, shows_now, shows_in}
use Rattle.regalloc2_checker.specs.Showing.{ShowsNow}
use Rattle.regalloc2_checker.proofs.Shown.{shown-after, shown-set, now-shown, inside-table, saved-shown}
use Rattle.regalloc2_checker.proofs.passing.PassingTables.save.Goals as goal

pub save-requires : goal.save-requires
save-requires g c =
    let l = inside-table c.args.self.now c.self.inside.tables c.self.inside.passed c.self.inside.saved.items c.args.table c.self.view_is c.requires in
    omega (arith, l, c.self.invariant.spare)

pub invariant_of-self : goal.invariant_of-self
invariant_of-self g c =
    shown-after c.self.inside.tables c.save.new.self c.self.inside.passed c.self.inside.saved.items c.in_err-save.ensures.vregs c.in_err-save.ensures.count
    c.self.invariant

pub invariant_of-self-2 : goal.invariant_of-self-2
invariant_of-self-2 g c =
    let l = inside-table c.args.self.now c.self.inside.tables c.self.inside.passed c.self.inside.saved.items c.args.table c.self.view_is c.requires in
    let a = shown-after c.self.inside.tables c.save.new.self c.self.inside.passed c.self.inside.saved.items c.in_ok-save.ensures.vregs
    c.in_ok-save.ensures.count c.self.invariant in
    shown-set c.save.new.self c.self.inside.passed c.self.inside.passed c.self.inside.saved.items c.args.table l a.now a

pub returns-in_err-save-clause-places : goal.returns-in_err-save-clause-places
returns-in_err-save-clause-places g c = c.in_err-save.ensures.places ∙ ap (λ (o : Showing). o.places) c.self.view_is

pub returns-in_err-save-clause-vregs : goal.returns-in_err-save-clause-vregs
returns-in_err-save-clause-vregs g c = c.in_err-save.ensures.vregs ∙ ap (λ (o : Showing). o.vregs) c.self.view_is

pub returns-in_err-save-clause-count : goal.returns-in_err-save-clause-count
returns-in_err-save-clause-count g c = ap (λ (o : Showing). table_count o) c.self.view_is

pub returns-in_err-save-clause-now : goal.returns-in_err-save-clause-now
returns-in_err-save-clause-now g c =
    subst (λ (o : Showing). ShowsNow (showing c.save.new.self c.self.inside.passed c.self.inside.saved.items) (shows_now o)) c.self.view_is
    (now-shown c.self.inside.tables c.save.new.self c.self.inside.passed c.self.inside.saved.items (holds_now c.self.inside.tables) c.in_err-save.ensures.vregs
    c.in_err-save.ensures.now)

pub returns-clause-places : goal.returns-clause-places
returns-clause-places g c = c.in_ok-save.ensures.places ∙ ap (λ (o : Showing). o.places) c.self.view_is

pub returns-clause-vregs : goal.returns-clause-vregs
returns-clause-vregs g c = c.in_ok-save.ensures.vregs ∙ ap (λ (o : Showing). o.vregs) c.self.view_is

pub returns-clause-count : goal.returns-clause-count
returns-clause-count g c = length-set c.self.inside.saved.items c.args.table c.self.inside.passed ∙ ap (λ (o : Showing). table_count o) c.self.view_is

pub returns-clause-now : goal.returns-clause-now
returns-clause-now g c =
    subst (λ (o : Showing). ShowsNow (showing c.save.new.self c.self.inside.passed (slice_set c.self.inside.saved.items c.args.table c.self.inside.passed))
    (shows_now o)) c.self.view_is
    (now-shown c.self.inside.tables c.save.new.self c.self.inside.passed (slice_set c.self.inside.saved.items c.args.table c.self.inside.passed) (holds_now
    c.self.inside.tables) c.in_ok-save.ensures.vregs c.in_ok-save.ensures.now)

pub returns-clause-tables : goal.returns-clause-tables
returns-clause-tables g c =
    let l = inside-table c.args.self.now c.self.inside.tables c.self.inside.passed c.self.inside.saved.items c.args.table c.self.view_is c.requires in
    subst (λ (o : Showing). (k i y : ℕ) → i < length o.places → shows_in (showing c.save.new.self c.self.inside.passed (slice_set c.self.inside.saved.items
    c.args.table c.self.inside.passed)) k i y
    ≡ (if nat_eq k c.args.table then shows_now o i y else shows_in o k i y)) c.self.view_is
    (saved-shown c.self.inside.tables c.save.new.self c.self.inside.passed c.self.inside.saved.items c.args.table l
    (record { places = c.in_ok-save.ensures.places; vregs = c.in_ok-save.ensures.vregs; tables = c.in_ok-save.ensures.tables }))
