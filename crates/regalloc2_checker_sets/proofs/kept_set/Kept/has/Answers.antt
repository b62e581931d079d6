use Rattle.std.proofs.Common.{arith, ap, sym, ◌∙◌}
use Rattle.std.proofs.lemmas.Bool.{eqb-true}
use Rattle.regalloc2_function.specs.Numbers.{NumberSet}
use Rattle.regalloc2_checker_sets.specs.EntrySets.{has_bits}
use Rattle.regalloc2_checker_sets.proofs.TwoSets.{kept-two, kept-many, first-of, second-of, not-none}
use Rattle.regalloc2_checker_sets.proofs.kept_set.Kept.has.Goals as goal

pub returns-then-bits-self : goal.returns-then-bits-self
returns-then-bits-self g c =
    let k = c.self.inside in
    let empty = eqb-true _ _ (sym c.if-is_empty.ensures) in
    first-of c.args.bits k.first k.second c.if-bits-self.true
    ∙ sym (kept-two k.first k.second k.many.items c.args.self.now c.self.view_is (omega (arith, empty, k.many.ok.0)) c.self.invariant.0
    c.self.invariant.1 c.args.bits)

pub returns-else-bits-self : goal.returns-else-bits-self
returns-else-bits-self g c =
    let k = c.self.inside in
    let empty = eqb-true _ _ (sym c.if-is_empty.ensures) in
    second-of c.args.bits k.first k.second c.if-bits-self.false
    ∙ sym (kept-two k.first k.second k.many.items c.args.self.now c.self.view_is (omega (arith, empty, k.many.ok.0)) c.self.invariant.0
    c.self.invariant.1 c.args.bits)

pub index-requires : goal.index-requires
index-requires g c =
    let k = c.self.inside in
    let some = not-none _ c.if-is_empty.ensures in
    omega (arith, some, k.many.ok.0)

pub returns : goal.returns
returns g c =
    let k = c.self.inside in
    let some = not-none _ c.if-is_empty.ensures in
    ◌∙◌ {b = has_bits c.index.result.now c.args.bits} c.has_bits.ensures
    (ap (λ (s : NumberSet). has_bits s c.args.bits)
    (sym (kept-many k.first k.second k.many.items c.args.self.now c.index.result.now c.self.view_is (omega (arith, some, k.many.ok.0))
    c.index.ensures)))
