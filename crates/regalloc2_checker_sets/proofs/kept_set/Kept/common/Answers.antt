use Rattle.std.proofs.Common.{arith, ap, sym, ◌∙◌, ◌≡◌, ℕ, subst}
use Rattle.std.specs.Prelude.{IfOk, ◌&&◌}
use Rattle.regalloc2_function.specs.Numbers.{NumberSet}
use Rattle.regalloc2_checker_sets.specs.EntrySets.{has_bits, is_member}
use Rattle.regalloc2_checker_sets.proofs.Bits.{ok-as}
use Rattle.regalloc2_checker_sets.proofs.TwoSets.{kept-many, not-none}
use Rattle.regalloc2_checker_sets.proofs.kept_set.Kept.common.Goals as goal

pub returns-then-not-is_empty : goal.returns-then-not-is_empty
returns-then-not-is_empty g c =
    let k = c.self.inside in
    let some = not-none _ c.if-not-is_empty.ensures in
    subst (λ (s : NumberSet). IfOk c.intersection.result (λ both. (y : ℕ) → has_bits both y ≡ (has_bits s y && is_member c.args.sets.now c.args.other y)))
    (sym (kept-many k.first k.second k.many.items c.args.self.now c.index.result.now c.self.view_is (omega (arith, some, k.many.ok.0))
    c.index.ensures)) c.intersection.ensures

pub returns : goal.returns
returns g c =
    ok-as _ _ c.intersection-2.result
    (λ both h y. h y ∙ ap (λ b. b && is_member c.args.sets.now c.args.other y) (c.in_ok-set.ensures y)) c.intersection-2.ensures
