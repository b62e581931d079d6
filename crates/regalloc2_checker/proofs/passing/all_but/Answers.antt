use Rattle.std.proofs.Common.{ℕ, ◌+◌, List, take, sym, refl, subst}
use Rattle.regalloc2_checker.proofs.Shown.{AreWithout, without-none, without-step, without-pass, without-all, without-here, without-others}
use Rattle.regalloc2_checker.proofs.passing.all_but.Goals as goal

pub loop-other-init : goal.loop-other-init
loop-other-init g c = without-none c.new-left.result.items c.args.number c.new-left.ensures.items

pub loop-other-preserved-then-other-number : goal.loop-other-preserved-then-other-number
loop-other-preserved-then-other-number g c =
    without-pass c.loop-other.left.items c.args.numbers.now c.loop-other.other-index c.args.number _ c.loop-other-test.true refl c.if-other-number.true
    c.loop-other.invariant

pub loop-other-preserved : goal.loop-other-preserved
loop-other-preserved g c =
    subst (λ (l : List ℕ). AreWithout l (take (c.loop-other.other-index + 1) c.args.numbers.now) c.args.number) (sym c.in_ok-push.ensures.items)
    (without-step c.loop-other.left.items c.args.numbers.now c.loop-other.other-index c.args.number _ c.loop-other-test.true refl c.if-other-number.false
    c.loop-other.invariant)

pub returns-clause-gone : goal.returns-clause-gone
returns-clause-gone g c =
    without-here c.loop-other.left.items c.args.numbers.now c.args.number
    (without-all c.loop-other.left.items c.args.numbers.now c.loop-other.other-index c.args.number c.loop-other-test.false c.loop-other.invariant)

pub returns-clause-others : goal.returns-clause-others
returns-clause-others g c y n =
    without-others c.loop-other.left.items c.args.numbers.now c.args.number y
    (without-all c.loop-other.left.items c.args.numbers.now c.loop-other.other-index c.args.number c.loop-other-test.false c.loop-other.invariant) n
