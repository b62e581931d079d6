use Rattle.std.proofs.Common.{◌≡◌, ◌<◌, length, get_or, ap, sym, ◌∙◌, subst}
use Rattle.std.proofs.Common.{nat_lt}
use Rattle.std.specs.Prelude.{◌&&◌, Option}
use Rattle.regalloc2_checker.specs.Holding.{holds_now}
use Rattle.regalloc2_checker.specs.Showing.{Showing, read_as, shows_now}
use Rattle.regalloc2_checker.specs.declared.passing.Passed.{Passed}
use Rattle.regalloc2_checker_sets.proofs.Bits.{ok-as}
use Rattle.regalloc2_checker.proofs.Shown.{read-none, read-here, read-other}
use Rattle.regalloc2_checker.proofs.passing.PassingTables.holders.Goals as goal

pub holders-requires : goal.holders-requires
holders-requires g c = subst (λ (o : Showing). c.args.vreg < length o.vregs) (sym c.self.view_is) c.requires

pub returns-in_default : goal.returns-in_default
returns-in_default g c =
    ok-as _ _ c.holders.result
    (λ r h i. h i
    ∙ ap (λ n. nat_lt i (length c.self.inside.tables.places) && holds_now c.self.inside.tables i n) (sym (read-none c.self.inside.tables.vregs (get_or
    c.self.inside.tables.vregs c.args.vreg 0)))
    ∙ ap (λ (o : Option Passed). nat_lt i (length c.self.inside.tables.places) && holds_now c.self.inside.tables i (read_as c.self.inside.tables.vregs o
    (get_or c.self.inside.tables.vregs c.args.vreg 0))) (sym c.in_default.is)
    ∙ ap (λ (o : Showing). nat_lt i (length o.places) && shows_now o i (get_or o.vregs c.args.vreg 0)) c.self.view_is) c.holders.ensures

pub bits-bits-requires : goal.bits-bits-requires
bits-bits-requires g c = subst (λ (o : Showing). c.args.vreg < length o.vregs) (sym c.self.view_is) c.requires

pub bits-parameter-requires : goal.bits-parameter-requires
bits-parameter-requires g c = (c.self.invariant.now c.in-Some.passed c.in-Some.is).0

pub holders-requires-then-bits-parameter : goal.holders-requires-then-bits-parameter
holders-requires-then-bits-parameter g c = (c.self.invariant.now c.in-Some.passed c.in-Some.is).1

pub returns-then-bits-parameter : goal.returns-then-bits-parameter
returns-then-bits-parameter g c =
    let here : get_or c.self.inside.tables.vregs c.args.vreg 0 ≡ get_or c.self.inside.tables.vregs c.in-Some.passed.parameter 0 =
    sym c.bits-bits.ensures ∙ c.if-bits-parameter.true ∙ c.bits-parameter.ensures in
    ok-as _ _ c.holders-then-bits-parameter.result
    (λ r h i. h i
    ∙ ap (λ n. nat_lt i (length c.self.inside.tables.places) && holds_now c.self.inside.tables i n) (sym (read-here c.self.inside.tables.vregs c.in-Some.passed
    (get_or c.self.inside.tables.vregs c.args.vreg 0) here))
    ∙ ap (λ (o : Option Passed). nat_lt i (length c.self.inside.tables.places) && holds_now c.self.inside.tables i (read_as c.self.inside.tables.vregs o
    (get_or c.self.inside.tables.vregs c.args.vreg 0))) (sym c.in-Some.is)
    ∙ ap (λ (o : Showing). nat_lt i (length o.places) && shows_now o i (get_or o.vregs c.args.vreg 0)) c.self.view_is) c.holders-then-bits-parameter.ensures

pub holders-requires-2 : goal.holders-requires-2
holders-requires-2 g c = subst (λ (o : Showing). c.args.vreg < length o.vregs) (sym c.self.view_is) c.requires

pub returns : goal.returns
returns g c =
    let other : get_or c.self.inside.tables.vregs c.args.vreg 0 ≡ get_or c.self.inside.tables.vregs c.in-Some.passed.parameter 0 → ⊥ =
    λ e. c.if-bits-parameter.false (c.bits-bits.ensures ∙ e ∙ sym c.bits-parameter.ensures) in
    ok-as _ _ c.holders-2.result
    (λ r h i. h i
    ∙ ap (λ n. nat_lt i (length c.self.inside.tables.places) && holds_now c.self.inside.tables i n) (sym (read-other c.self.inside.tables.vregs
    c.in-Some.passed (get_or c.self.inside.tables.vregs c.args.vreg 0) other))
    ∙ ap (λ (o : Option Passed). nat_lt i (length c.self.inside.tables.places) && holds_now c.self.inside.tables i (read_as c.self.inside.tables.vregs o
    (get_or c.self.inside.tables.vregs c.args.vreg 0))) (sym c.in-Some.is)
    ∙ ap (λ (o : Showing). nat_lt i (length o.places) && shows_now o i (get_or o.vregs c.args.vreg 0)) c.self.view_is) c.holders-2.ensures
