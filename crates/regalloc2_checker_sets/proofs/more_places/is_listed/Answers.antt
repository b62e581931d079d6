use Rattle.std.proofs.Common.{sym, ap, ◌∙◌}
use Rattle.regalloc2_checker_sets.specs.Homes.{is_one_of}
use Rattle.std.proofs.Common.{ℕ, List, take_all}
use Rattle.regalloc2_checker_sets.proofs.MoreLaws.{one-at, one-next, one-none}
use Rattle.regalloc2_checker_sets.proofs.more_places.is_listed.Goals as goal

pub loop-number-init : goal.loop-number-init
loop-number-init c = one-none c.args.place

pub loop-number-preserved : goal.loop-number-preserved
loop-number-preserved c =
    one-next c.args.numbers.now c.loop-number.number-index c.args.place c.loop-number-test.true c.loop-number.invariant c.if-number-place.false

pub returns-then-number-place : goal.returns-then-number-place
returns-then-number-place c = sym (one-at c.args.numbers.now c.loop-number.number-index c.args.place c.loop-number-test.true c.if-number-place.true)

pub returns : goal.returns
returns c =
    sym (ap (λ (ns : List ℕ). is_one_of ns c.args.place) (sym (take_all c.loop-number.number-index c.args.numbers.now c.loop-number-test.false))
    ∙ c.loop-number.invariant)
