use Rattle.std.proofs.Common.{◌<◌, length, get_or, ap, sym, ◌∙◌, subst}
use Rattle.std.specs.Prelude.{Option}
use Rattle.regalloc2_checker.specs.Showing.{Showing, IsReadApart}
use Rattle.regalloc2_checker.specs.declared.passing.Passed.{Passed}
use Rattle.regalloc2_checker_sets.proofs.Results.{on_ok_as}
use Rattle.regalloc2_checker.proofs.Shown.{shown-same, none-apart, read-apart}
use Rattle.regalloc2_checker.proofs.passing.PassingTables.settle_for.Goals as goal

pub returns-in_default-clause-kept : goal.returns-in_default-clause-kept
returns-in_default-clause-kept g c = shown-same c.args.self.now

pub returns-in_default-clause-apart : goal.returns-in_default-clause-apart
returns-in_default-clause-apart g c =
    none-apart c.args.self.now.vregs c.args.self.now.passed (get_or c.args.self.now.vregs c.args.vreg 0) (ap (λ (o : Showing). o.passed) (sym c.self.view_is) ∙
    c.in_default.is)

pub bits-bits-requires : goal.bits-bits-requires
bits-bits-requires g c = subst (λ (o : Showing). c.args.vreg < length o.vregs) (sym c.self.view_is) c.requires

pub bits-parameter-requires : goal.bits-parameter-requires
bits-parameter-requires g c = (c.self.invariant.now c.in-Some.passed c.in-Some.is).0

pub bits-argument-requires : goal.bits-argument-requires
bits-argument-requires g c = (c.self.invariant.now c.in-Some.passed c.in-Some.is).1

pub returns-then-bits-parameter-clause-apart : goal.returns-then-bits-parameter-clause-apart
returns-then-bits-parameter-clause-apart g c =
    on_ok_as _ _ c.settle.result (λ none. none-apart c.settle.new.self.vregs c.settle.new.self.passed (get_or c.args.self.now.vregs c.args.vreg 0) none)
    c.settle.ensures.none

pub returns-then-bits-argument-clause-apart : goal.returns-then-bits-argument-clause-apart
returns-then-bits-argument-clause-apart g c =
    on_ok_as _ _ c.settle-then-bits-argument.result (λ none. none-apart c.settle-then-bits-argument.new.self.vregs c.settle-then-bits-argument.new.self.passed
    (get_or c.args.self.now.vregs c.args.vreg 0) none) c.settle-then-bits-argument.ensures.none

pub returns-clause-kept : goal.returns-clause-kept
returns-clause-kept g c = shown-same c.args.self.now

pub returns-clause-apart : goal.returns-clause-apart
returns-clause-apart g c =
    let read : IsReadApart c.self.inside.tables.vregs c.self.inside.passed (get_or c.self.inside.tables.vregs c.args.vreg 0) =
    subst (λ (o : Option Passed). IsReadApart c.self.inside.tables.vregs o (get_or c.self.inside.tables.vregs c.args.vreg 0)) (sym c.in-Some.is)
    (λ y. read-apart c.self.inside.tables.vregs c.in-Some.passed (get_or c.self.inside.tables.vregs c.args.vreg 0) y
    (λ e. c.if-bits-parameter.false (c.bits-bits.ensures ∙ e ∙ sym c.bits-parameter.ensures))
    (λ e. c.if-bits-argument.false (c.bits-bits.ensures ∙ e ∙ sym c.bits-argument.ensures))) in
    subst (λ (o : Showing). IsReadApart o.vregs o.passed (get_or o.vregs c.args.vreg 0)) c.self.view_is read
