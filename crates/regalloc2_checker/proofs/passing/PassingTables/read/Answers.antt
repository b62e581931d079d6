use Rattle.std.proofs.Common.{ap, sym, ◌∙◌}
use Rattle.std.specs.Prelude.{Option}
use Rattle.regalloc2_checker.specs.Showing.{Showing, read_as}
use Rattle.regalloc2_checker.specs.declared.passing.Passed.{Passed}
use Rattle.regalloc2_checker.proofs.Shown.{read-none, read-here, read-other}
use Rattle.regalloc2_checker.proofs.passing.PassingTables.read.Goals as goal

pub returns-in_default : goal.returns-in_default
returns-in_default g c =
    sym (read-none c.self.inside.tables.vregs c.args.bits) ∙ ap (λ (o : Option Passed). read_as c.self.inside.tables.vregs o c.args.bits) (sym c.in_default.is)
    ∙ ap (λ (o : Showing). read_as o.vregs o.passed c.args.bits) c.self.view_is

pub bits-parameter-requires : goal.bits-parameter-requires
bits-parameter-requires g c = (c.self.invariant.now c.in-Some.passed c.in-Some.is).0

pub bits-requires : goal.bits-requires
bits-requires g c = (c.self.invariant.now c.in-Some.passed c.in-Some.is).1

pub returns-then-bits-parameter : goal.returns-then-bits-parameter
returns-then-bits-parameter g c =
    c.bits.ensures ∙ sym (read-here c.self.inside.tables.vregs c.in-Some.passed c.args.bits (c.if-bits-parameter.true ∙ c.bits-parameter.ensures))
    ∙ ap (λ (o : Option Passed). read_as c.self.inside.tables.vregs o c.args.bits) (sym c.in-Some.is)
    ∙ ap (λ (o : Showing). read_as o.vregs o.passed c.args.bits) c.self.view_is

pub returns : goal.returns
returns g c =
    sym (read-other c.self.inside.tables.vregs c.in-Some.passed c.args.bits (λ e. c.if-bits-parameter.false (e ∙ sym c.bits-parameter.ensures)))
    ∙ ap (λ (o : Option Passed). read_as c.self.inside.tables.vregs o c.args.bits) (sym c.in-Some.is)
    ∙ ap (λ (o : Showing). read_as o.vregs o.passed c.args.bits) c.self.view_is
