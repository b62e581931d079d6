use Rattle.std.proofs.Common.{arith, ap, sym}
use Rattle.std.proofs.lemmas.Bool.{eqb-true}
use Rattle.regalloc2_function.specs.Numbers.{NumberSet}
use Rattle.regalloc2_checker_sets.specs.EntrySets.{has_bits, is_member}
use Rattle.regalloc2_checker_sets.proofs.AllSets.{within-as, less-as}
use Rattle.regalloc2_checker_sets.proofs.TwoSets.{kept-two, kept-many, two-within, two-first, two-less, not-none}
use Rattle.regalloc2_checker_sets.proofs.kept_set.Kept.is_within.Goals as goal

pub returns-then-not-is_empty-clause-yes : goal.returns-then-not-is_empty-clause-yes
returns-then-not-is_empty-clause-yes g c =
    let k = c.self.inside in
    let some = not-none _ c.if-not-is_empty.ensures in
    within-as (has_bits c.index.result.now) (has_bits c.args.self.now) (is_member c.args.sets.now c.args.other) c.is_subset.result
    (λ y. ap (λ (s : NumberSet). has_bits s y)
    (sym (kept-many k.first k.second k.many.items c.args.self.now c.index.result.now c.self.view_is (omega (arith, some, k.many.ok.0))
    c.index.ensures)))
    c.is_subset.ensures.yes

pub returns-then-not-is_empty-clause-no : goal.returns-then-not-is_empty-clause-no
returns-then-not-is_empty-clause-no g c =
    let k = c.self.inside in
    let some = not-none _ c.if-not-is_empty.ensures in
    less-as (has_bits c.index.result.now) (has_bits c.args.self.now) (is_member c.args.sets.now c.args.other) c.is_subset.result
    (λ y. ap (λ (s : NumberSet). has_bits s y)
    (sym (kept-many k.first k.second k.many.items c.args.self.now c.index.result.now c.self.view_is (omega (arith, some, k.many.ok.0))
    c.index.ensures)))
    c.is_subset.ensures.no

pub returns-then-not-has-clause-no : goal.returns-then-not-has-clause-no
returns-then-not-has-clause-no g c =
    let k = c.self.inside in
    let empty = eqb-true _ _ (sym c.if-not-is_empty.ensures) in
    two-first (has_bits c.args.self.now) (is_member c.args.sets.now c.args.other) k.first k.second c.self.invariant.0
    (kept-two k.first k.second k.many.items c.args.self.now c.self.view_is (omega (arith, empty, k.many.ok.0)) c.self.invariant.0
    c.self.invariant.1) (sym c.if-not-has.ensures)

pub returns-clause-yes : goal.returns-clause-yes
returns-clause-yes g c =
    let k = c.self.inside in
    let empty = eqb-true _ _ (sym c.if-not-is_empty.ensures) in
    two-within (has_bits c.args.self.now) (is_member c.args.sets.now c.args.other) k.first k.second c.has-2.result
    (kept-two k.first k.second k.many.items c.args.self.now c.self.view_is (omega (arith, empty, k.many.ok.0)) c.self.invariant.0
    c.self.invariant.1) (sym c.if-not-has.ensures) c.has-2.ensures

pub returns-clause-no : goal.returns-clause-no
returns-clause-no g c =
    let k = c.self.inside in
    let empty = eqb-true _ _ (sym c.if-not-is_empty.ensures) in
    two-less (has_bits c.args.self.now) (is_member c.args.sets.now c.args.other) k.first k.second c.has-2.result c.self.invariant.1
    (kept-two k.first k.second k.many.items c.args.self.now c.self.view_is (omega (arith, empty, k.many.ok.0)) c.self.invariant.0
    c.self.invariant.1) c.has-2.ensures
