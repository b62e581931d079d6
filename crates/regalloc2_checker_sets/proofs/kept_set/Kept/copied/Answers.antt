use Rattle.std.proofs.Common.{arith, ap, sym, ◌∙◌}
use Rattle.std.proofs.Common.{nat_lt}
use Rattle.std.specs.Prelude.{◌&&◌}
use Rattle.std.proofs.lemmas.Bool.{eqb-true}
use Rattle.regalloc2_function.specs.Numbers.{NumberSet}
use Rattle.regalloc2_checker_sets.specs.EntrySets.{has_bits}
use Rattle.regalloc2_checker_sets.proofs.TwoSets.{kept-two, kept-many, put-two, not-none}
use Rattle.regalloc2_checker_sets.proofs.kept_set.Kept.copied.Goals as goal

pub returns-then-not-is_empty : goal.returns-then-not-is_empty
returns-then-not-is_empty g c y =
    let k = c.self.inside in
    let some = not-none _ c.if-not-is_empty.ensures in
    ap (λ b. nat_lt y 4294967296 && b) (c.in_ok-assign.ensures.ok y)
    ∙ ap (λ (s : NumberSet). has_bits s y)
    (sym (kept-many k.first k.second k.many.items c.args.self.now c.index.result.now c.self.view_is (omega (arith, some, k.many.ok.0))
    c.index.ensures))

pub returns : goal.returns
returns g c y =
    let k = c.self.inside in
    let empty = eqb-true _ _ (sym c.if-not-is_empty.ensures) in
    put-two c.new-copy.result c.set.new.self c.set-2.new.self k.first k.second c.self.invariant.0 c.self.invariant.1 c.new-copy.ensures
    c.in_ok-set.ensures.ok c.in_ok-set-2.ensures.ok y
    ∙ sym (kept-two k.first k.second k.many.items c.args.self.now c.self.view_is (omega (arith, empty, k.many.ok.0)) c.self.invariant.0
    c.self.invariant.1 y)
