use Rattle.std.proofs.Common.{ap, ◌∙◌, subst}
use Rattle.std.specs.Prelude.{None}
use Rattle.regalloc2_checker.specs.Holding.{holds_now}
use Rattle.regalloc2_checker.specs.Showing.{Showing, showing, shows_now, AreTablesKept}
use Rattle.regalloc2_checker.specs.Showing.{ShowsNow}
use Rattle.regalloc2_checker.proofs.Shown.{shown-after, shown-with, none-passed, kept-shown, read-none}
use Rattle.regalloc2_checker.proofs.passing.PassingTables.settle.Goals as goal

pub settle-requires : goal.settle-requires
settle-requires g c = c.self.invariant.now

pub invariant_of-self : goal.invariant_of-self
invariant_of-self g c =
    shown-after c.self.inside.tables c.settle.new.tables c.self.inside.passed c.self.inside.saved.items c.in_err-settle.ensures.kept.vregs
    c.in_err-settle.ensures.kept.count c.self.invariant

pub invariant_of-self-2 : goal.invariant_of-self-2
invariant_of-self-2 g c =
    shown-with c.settle.new.tables c.self.inside.passed None c.self.inside.saved.items (none-passed c.settle.new.tables.vregs)
    (shown-after c.self.inside.tables c.settle.new.tables c.self.inside.passed c.self.inside.saved.items c.in_ok-settle.ensures.kept.vregs
    c.in_ok-settle.ensures.kept.count c.self.invariant)

pub returns-in_err-settle-clause-kept : goal.returns-in_err-settle-clause-kept
returns-in_err-settle-clause-kept g c =
    subst (λ (o : Showing). AreTablesKept o (showing c.settle.new.tables c.self.inside.passed c.self.inside.saved.items)) c.self.view_is
    (kept-shown c.self.inside.tables c.settle.new.tables c.self.inside.passed c.self.inside.passed c.self.inside.saved.items c.in_err-settle.ensures.kept)

pub returns-clause-kept : goal.returns-clause-kept
returns-clause-kept g c =
    subst (λ (o : Showing). AreTablesKept o (showing c.settle.new.tables None c.self.inside.saved.items)) c.self.view_is
    (kept-shown c.self.inside.tables c.settle.new.tables c.self.inside.passed None c.self.inside.saved.items c.in_ok-settle.ensures.kept)

pub returns-clause-now : goal.returns-clause-now
returns-clause-now g c =
    subst (λ (o : Showing). ShowsNow (showing c.settle.new.tables None c.self.inside.saved.items) (shows_now o)) c.self.view_is
    (λ i y l. ap (holds_now c.settle.new.tables i) (read-none c.settle.new.tables.vregs y) ∙ c.in_ok-settle.ensures.now i y l)
