use Rattle.std.proofs.Common.{ℕ, ◌<◌, List, length, get_or, ap, sym, subst}
use Rattle.regalloc2_checker_sets.proofs.Results.{on_ok_as}
use Rattle.regalloc2_checker.proofs.Shown.{shown-after, inside-kept, settled-seen, forgotten-shown}
use Rattle.regalloc2_checker.proofs.passing.PassingTables.forget.Goals as goal

pub forget-requires : goal.forget-requires
forget-requires g c =
    let b = settled-seen c.args.self.now c.settle_for.new.self c.self.inside.tables c.self.inside.passed c.self.inside.saved.items c.args.vreg c.self.view_is
    c.in_ok-settle_for.ensures.kept
    c.in_ok-settle_for.ensures.now c.in_ok-settle_for.ensures.apart in
    subst (λ (vs : List ℕ). c.args.vreg < length vs) (sym b.vregs) c.requires

pub invariant_of-self : goal.invariant_of-self
invariant_of-self g c =
    shown-after c.self.inside.tables c.forget.new.self c.self.inside.passed c.self.inside.saved.items c.forget.ensures.kept.vregs c.forget.ensures.kept.count
    c.self.invariant

pub returns-clause-kept : goal.returns-clause-kept
returns-clause-kept g c =
    inside-kept c.args.self.now c.settle_for.new.self c.self.inside.tables c.forget.new.self c.self.inside.passed c.self.inside.passed
    c.self.inside.saved.items c.self.view_is c.in_ok-settle_for.ensures.kept c.forget.ensures.kept

pub returns-clause-now : goal.returns-clause-now
returns-clause-now g c =
    let b = settled-seen c.args.self.now c.settle_for.new.self c.self.inside.tables c.self.inside.passed c.self.inside.saved.items c.args.vreg c.self.view_is
    c.in_ok-settle_for.ensures.kept
    c.in_ok-settle_for.ensures.now c.in_ok-settle_for.ensures.apart in
    on_ok_as _ _ c.forget.result
    (λ ok. forgotten-shown c.args.self.now c.self.inside.tables c.forget.new.self c.self.inside.passed c.self.inside.saved.items (get_or
    c.self.inside.tables.vregs c.args.vreg 0) (get_or c.args.self.now.vregs c.args.vreg 0) b
    c.forget.ensures.kept (ap (λ (vs : List ℕ). get_or vs c.args.vreg 0) b.vregs) ok) c.forget.ensures.now
