use Rattle.std.proofs.Common.{ℕ, ◌≡◌, ◌<◌, length, get_or, arith, ap, sym, ◌∙◌, refl, subst, nat_eq}
use Rattle.std.specs.Prelude.{if◌then◌else◌, slice_set, Option, None, Some}
use Rattle.std.proofs.lemmas.List.{get_or-set_same, length-set}
use Rattle.regalloc2_checker.specs.Holding.{holds_now, holds_in}
use Rattle.regalloc2_checker.specs.Showing.{Showing, showing, read_as, table_count, shows_now, shows_in, ListsPassed}
use Rattle.regalloc2_checker.specs.Showing.{ShowsNow}
use Rattle.regalloc2_checker.specs.declared.passing.Passed.{Passed}
use Rattle.regalloc2_checker_sets.proofs.Bits.{read-is}
use Rattle.regalloc2_checker.proofs.Shown.{shown-after, shown-set, none-passed, inside-table, now-shown, settled-shown}
use Rattle.regalloc2_checker.proofs.passing.PassingTables.settle_saved.Goals as goal

pub returns-in_default-clause-none : goal.returns-in_default-clause-none
returns-in_default-clause-none g c =
    let l = inside-table c.args.self.now c.self.inside.tables c.self.inside.passed c.self.inside.saved.items c.args.table c.self.view_is c.requires in
    ap (λ (o : Showing). get_or o.saved c.args.table None) (sym c.self.view_is) ∙ sym (read-is c.self.inside.saved.items c.self.inside.saved.items c.args.table
    c.index.result.now None refl l c.index.ensures) ∙ c.in_default.is

pub settle_in-requires-clause-passed : goal.settle_in-requires-clause-passed
settle_in-requires-clause-passed g c =
    let l = inside-table c.args.self.now c.self.inside.tables c.self.inside.passed c.self.inside.saved.items c.args.table c.self.view_is c.requires in
    subst (λ (o : Option Passed). ListsPassed c.self.inside.tables.vregs o) (sym (read-is c.self.inside.saved.items c.self.inside.saved.items c.args.table
    c.index.result.now None refl l c.index.ensures) ∙ c.in-Some.is) (c.self.invariant.tables c.args.table)

pub settle_in-requires-clause-table : goal.settle_in-requires-clause-table
settle_in-requires-clause-table g c =
    let l = inside-table c.args.self.now c.self.inside.tables c.self.inside.passed c.self.inside.saved.items c.args.table c.self.view_is c.requires in
    omega (arith, l, c.self.invariant.spare)

pub settle_in-requires-clause-spare : goal.settle_in-requires-clause-spare
settle_in-requires-clause-spare g c = omega (arith, c.self.invariant.spare, c.len-spare.ensures, c.self.inside.saved.ok.0)

pub settle_in-requires-clause-apart : goal.settle_in-requires-clause-apart
settle_in-requires-clause-apart g c e =
    let l = inside-table c.args.self.now c.self.inside.tables c.self.inside.passed c.self.inside.saved.items c.args.table c.self.view_is c.requires in
    omega (arith, l, e, c.len-spare.ensures, c.self.inside.saved.ok.0)

pub invariant_of-self : goal.invariant_of-self
invariant_of-self g c =
    shown-after c.self.inside.tables c.settle_in.new.tables c.self.inside.passed c.self.inside.saved.items c.in_err-settle_in.ensures.vregs
    c.in_err-settle_in.ensures.count c.self.invariant

pub invariant_of-self-2 : goal.invariant_of-self-2
invariant_of-self-2 g c =
    let l = inside-table c.args.self.now c.self.inside.tables c.self.inside.passed c.self.inside.saved.items c.args.table c.self.view_is c.requires in
    shown-set c.settle_in.new.tables c.self.inside.passed None c.self.inside.saved.items c.args.table l (none-passed c.settle_in.new.tables.vregs)
    (shown-after c.self.inside.tables c.settle_in.new.tables c.self.inside.passed c.self.inside.saved.items c.in_ok-settle_in.ensures.vregs
    c.in_ok-settle_in.ensures.count c.self.invariant)

pub returns-in_err-settle_in-clause-places : goal.returns-in_err-settle_in-clause-places
returns-in_err-settle_in-clause-places g c = c.in_err-settle_in.ensures.places ∙ ap (λ (o : Showing). o.places) c.self.view_is

pub returns-in_err-settle_in-clause-vregs : goal.returns-in_err-settle_in-clause-vregs
returns-in_err-settle_in-clause-vregs g c = c.in_err-settle_in.ensures.vregs ∙ ap (λ (o : Showing). o.vregs) c.self.view_is

pub returns-in_err-settle_in-clause-count : goal.returns-in_err-settle_in-clause-count
returns-in_err-settle_in-clause-count g c = ap (λ (o : Showing). table_count o) c.self.view_is

pub returns-in_err-settle_in-clause-passed : goal.returns-in_err-settle_in-clause-passed
returns-in_err-settle_in-clause-passed g c = ap (λ (o : Showing). o.passed) c.self.view_is

pub returns-clause-places : goal.returns-clause-places
returns-clause-places g c = c.in_ok-settle_in.ensures.places ∙ ap (λ (o : Showing). o.places) c.self.view_is

pub returns-clause-vregs : goal.returns-clause-vregs
returns-clause-vregs g c = c.in_ok-settle_in.ensures.vregs ∙ ap (λ (o : Showing). o.vregs) c.self.view_is

pub returns-clause-count : goal.returns-clause-count
returns-clause-count g c = length-set c.self.inside.saved.items c.args.table None ∙ ap (λ (o : Showing). table_count o) c.self.view_is

pub returns-clause-passed : goal.returns-clause-passed
returns-clause-passed g c = ap (λ (o : Showing). o.passed) c.self.view_is

pub returns-clause-now : goal.returns-clause-now
returns-clause-now g c =
    subst (λ (o : Showing). ShowsNow (showing c.settle_in.new.tables c.self.inside.passed (slice_set c.self.inside.saved.items c.args.table None)) (shows_now
    o)) c.self.view_is
    (now-shown c.self.inside.tables c.settle_in.new.tables c.self.inside.passed (slice_set c.self.inside.saved.items c.args.table None) (holds_now
    c.self.inside.tables) c.in_ok-settle_in.ensures.vregs c.in_ok-settle_in.ensures.now)

pub returns-clause-tables : goal.returns-clause-tables
returns-clause-tables g c =
    let l = inside-table c.args.self.now c.self.inside.tables c.self.inside.passed c.self.inside.saved.items c.args.table c.self.view_is c.requires in
    let q : get_or c.self.inside.saved.items c.args.table None ≡ Some c.in-Some.passed = sym (read-is c.self.inside.saved.items c.self.inside.saved.items
    c.args.table c.index.result.now None refl l c.index.ensures) ∙ c.in-Some.is in
    subst (λ (o : Showing). (k i y : ℕ) → i < length o.places → shows_in (showing c.settle_in.new.tables c.self.inside.passed (slice_set
    c.self.inside.saved.items c.args.table None)) k i y ≡ shows_in o k i y) c.self.view_is
    (settled-shown c.self.inside.tables c.settle_in.new.tables c.self.inside.passed c.self.inside.saved.items c.args.table l c.in_ok-settle_in.ensures.vregs
    (λ k i y n less. c.in_ok-settle_in.ensures.tables k i y (λ e. n (omega (arith, e, c.len-spare.ensures, c.self.inside.saved.ok.0))) less
    ∙ ap (λ (o : Option Passed). if nat_eq k c.args.table then holds_in c.self.inside.tables c.args.table i (read_as c.self.inside.tables.vregs o y) else
    holds_in c.self.inside.tables k i y) (sym q)))

pub returns-clause-none : goal.returns-clause-none
returns-clause-none g c =
    let l = inside-table c.args.self.now c.self.inside.tables c.self.inside.passed c.self.inside.saved.items c.args.table c.self.view_is c.requires in
    get_or-set_same c.self.inside.saved.items c.args.table None None l
