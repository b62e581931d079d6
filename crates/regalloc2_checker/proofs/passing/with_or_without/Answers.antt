use Rattle.regalloc2_index.proofs.Bools.{not_both}
use Rattle.regalloc2_checker.proofs.Shown.{with-here, with-others}
use Rattle.regalloc2_checker.proofs.passing.with_or_without.Goals as goal

pub returns-then-not-is_in-clause-here : goal.returns-then-not-is_in-clause-here
returns-then-not-is_in-clause-here g c =
    (λ d. absurd (c.in_ok-changed.ensures.gone d), λ e. absurd (not_both c.args.is_in e c.if-not-is_in.true))

pub returns-clause-here : goal.returns-clause-here
returns-clause-here g c =
    (λ d. c.if-not-is_in.false, λ e. with-here c.in_ok-changed.changed.items c.push.new.self.items c.args.number c.in_ok-push.ensures.items)

pub returns-clause-others : goal.returns-clause-others
returns-clause-others g c y n =
    let a = with-others c.in_ok-changed.changed.items c.push.new.self.items c.args.number y c.in_ok-push.ensures.items n in
    let b = c.in_ok-changed.ensures.others y n in
    (λ d. b.0 (a.0 d), λ d. a.1 (b.1 d))
