use Rattle.std.proofs.Common.{ℕ, ◌≡◌, ◌<◌, false, length, get_or, ap, ◌∙◌, subst}
use Rattle.regalloc2_checker.specs.Showing.{Showing, showing, table_count, shows_in}
use Rattle.regalloc2_checker_sets.proofs.Results.{on_ok_as}
use Rattle.regalloc2_checker.proofs.Shown.{shown-after}
use Rattle.regalloc2_checker.proofs.Dropped.{shown-without}
use Rattle.regalloc2_checker.proofs.passing.PassingTables.drop_marked.Goals as goal

pub invariant_of-self : goal.invariant_of-self
invariant_of-self g c =
    shown-after c.self.inside.tables c.drop_marked.new.self c.self.inside.passed c.self.inside.saved.items c.drop_marked.ensures.vregs
    c.drop_marked.ensures.count c.self.invariant

pub returns-clause-places : goal.returns-clause-places
returns-clause-places g c = c.drop_marked.ensures.places ∙ ap (λ (o : Showing). o.places) c.self.view_is

pub returns-clause-vregs : goal.returns-clause-vregs
returns-clause-vregs g c = c.drop_marked.ensures.vregs ∙ ap (λ (o : Showing). o.vregs) c.self.view_is

pub returns-clause-count : goal.returns-clause-count
returns-clause-count g c = ap (λ (o : Showing). table_count o) c.self.view_is

pub returns-clause-tables : goal.returns-clause-tables
returns-clause-tables g c =
    on_ok_as _ _ c.drop_marked.result
    (λ ok. subst (λ (o : Showing). (k i y : ℕ) → get_or c.args.marks.now k false ≡ false → i < length o.places →
    shows_in (showing c.drop_marked.new.self c.self.inside.passed c.self.inside.saved.items) k i y ≡ shows_in o k i y) c.self.view_is
    (shown-without c.self.inside.tables c.drop_marked.new.self c.self.inside.passed c.self.inside.saved.items c.args.marks.now c.self.invariant
    c.drop_marked.ensures.vregs ok)) c.drop_marked.ensures.tables
