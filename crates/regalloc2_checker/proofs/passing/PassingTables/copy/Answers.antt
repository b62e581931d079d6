use Rattle.std.proofs.Common.{◌<◌, length, sym, subst, nat_eq}
use Rattle.std.specs.Prelude.{if◌then◌else◌}
use Rattle.regalloc2_checker.specs.Holding.{holds_now}
use Rattle.regalloc2_checker.specs.Showing.{Showing, showing, shows_now, AreTablesKept}
use Rattle.regalloc2_checker.specs.Showing.{ShowsNow}
use Rattle.regalloc2_checker_sets.proofs.Results.{on_ok_as}
use Rattle.regalloc2_checker.proofs.Shown.{shown-after, kept-shown, now-shown}
use Rattle.regalloc2_checker.proofs.passing.PassingTables.copy.Goals as goal

pub copy-requires-clause-from : goal.copy-requires-clause-from
copy-requires-clause-from g c = subst (λ (o : Showing). c.args.from < length o.places) (sym c.self.view_is) c.requires.from

pub copy-requires-clause-to : goal.copy-requires-clause-to
copy-requires-clause-to g c = subst (λ (o : Showing). c.args.to < length o.places) (sym c.self.view_is) c.requires.to

pub invariant_of-self : goal.invariant_of-self
invariant_of-self g c =
    shown-after c.self.inside.tables c.copy.new.self c.self.inside.passed c.self.inside.saved.items c.copy.ensures.kept.vregs c.copy.ensures.kept.count
    c.self.invariant

pub returns-clause-kept : goal.returns-clause-kept
returns-clause-kept g c =
    subst (λ (o : Showing). AreTablesKept o (showing c.copy.new.self c.self.inside.passed c.self.inside.saved.items)) c.self.view_is
    (kept-shown c.self.inside.tables c.copy.new.self c.self.inside.passed c.self.inside.passed c.self.inside.saved.items c.copy.ensures.kept)

pub returns-clause-now : goal.returns-clause-now
returns-clause-now g c =
    on_ok_as _ _ c.copy.result
    (λ ok. subst (λ (o : Showing). ShowsNow (showing c.copy.new.self c.self.inside.passed c.self.inside.saved.items)
    (λ i y. if nat_eq i c.args.to then shows_now o c.args.from y else shows_now o i y)) c.self.view_is
    (now-shown c.self.inside.tables c.copy.new.self c.self.inside.passed c.self.inside.saved.items (λ i y. if nat_eq i c.args.to then holds_now
    c.self.inside.tables c.args.from y else holds_now c.self.inside.tables i y)
    c.copy.ensures.kept.vregs ok)) c.copy.ensures.now
