use Rattle.std.proofs.Common.{◌<◌, length, false, sym, subst, nat_eq}
use Rattle.std.specs.Prelude.{if◌then◌else◌}
use Rattle.regalloc2_checker.specs.Holding.{holds_now}
use Rattle.regalloc2_checker.specs.Showing.{Showing, showing, shows_now, AreTablesKept}
use Rattle.regalloc2_checker.specs.Showing.{ShowsNow}
use Rattle.regalloc2_checker.proofs.Shown.{shown-after, kept-shown, now-shown}
use Rattle.regalloc2_checker.proofs.passing.PassingTables.clear.Goals as goal

pub clear-requires : goal.clear-requires
clear-requires g c = subst (λ (o : Showing). c.args.place < length o.places) (sym c.self.view_is) c.requires

pub invariant_of-self : goal.invariant_of-self
invariant_of-self g c =
    shown-after c.self.inside.tables c.clear.new.self c.self.inside.passed c.self.inside.saved.items c.clear.ensures.kept.vregs c.clear.ensures.kept.count
    c.self.invariant

pub returns-clause-kept : goal.returns-clause-kept
returns-clause-kept g c =
    subst (λ (o : Showing). AreTablesKept o (showing c.clear.new.self c.self.inside.passed c.self.inside.saved.items)) c.self.view_is
    (kept-shown c.self.inside.tables c.clear.new.self c.self.inside.passed c.self.inside.passed c.self.inside.saved.items c.clear.ensures.kept)

pub returns-clause-now : goal.returns-clause-now
returns-clause-now g c =
    subst (λ (o : Showing). ShowsNow (showing c.clear.new.self c.self.inside.passed c.self.inside.saved.items) (λ i y. if nat_eq i c.args.place then false else
    shows_now o i y)) c.self.view_is
    (now-shown c.self.inside.tables c.clear.new.self c.self.inside.passed c.self.inside.saved.items (λ i y. if nat_eq i c.args.place then false else holds_now
    c.self.inside.tables i y) c.clear.ensures.kept.vregs
    c.clear.ensures.now)
