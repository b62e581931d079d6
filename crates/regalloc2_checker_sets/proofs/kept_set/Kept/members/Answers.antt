use Rattle.std.proofs.Common.{arith, sym, subst}
use Rattle.std.specs.Prelude.{IfOk}
use Rattle.std.proofs.lemmas.Bool.{eqb-true}
use Rattle.regalloc2_function.specs.Numbers.{NumberSet}
use Rattle.regalloc2_checker_sets.specs.EntrySets.{has_bits, ListsBits}
use Rattle.regalloc2_checker_sets.proofs.Bits.{ok-as}
use Rattle.regalloc2_checker_sets.proofs.TwoSets.{kept-two, kept-many, lists-same, lists-two, not-none}
use Rattle.regalloc2_checker_sets.proofs.kept_set.Kept.members.Goals as goal

pub returns-then-not-is_empty : goal.returns-then-not-is_empty
returns-then-not-is_empty g c =
    let k = c.self.inside in
    let some = not-none _ c.if-not-is_empty.ensures in
    subst (λ (s : NumberSet). IfOk c.listed.result (λ members. ListsBits (has_bits s) members.items))
    (sym (kept-many k.first k.second k.many.items c.args.self.now c.index.result.now c.self.view_is (omega (arith, some, k.many.ok.0))
    c.index.ensures)) c.listed.ensures

pub returns-then-self : goal.returns-then-self
returns-then-self g c =
    let k = c.self.inside in
    let empty = eqb-true _ _ (sym c.if-not-is_empty.ensures) in
    ok-as _ _ c.from_slice.result (λ v h. lists-same (has_bits c.args.self.now) v.items k.first k.second h c.if-self.true
    (kept-two k.first k.second k.many.items c.args.self.now c.self.view_is (omega (arith, empty, k.many.ok.0)) c.self.invariant.0
    c.self.invariant.1)) c.from_slice.ensures.items

pub returns : goal.returns
returns g c =
    let k = c.self.inside in
    let empty = eqb-true _ _ (sym c.if-not-is_empty.ensures) in
    ok-as _ _ c.from_slice-2.result (λ v h. lists-two (has_bits c.args.self.now) v.items k.first k.second h c.if-self.false
    (kept-two k.first k.second k.many.items c.args.self.now c.self.view_is (omega (arith, empty, k.many.ok.0)) c.self.invariant.0
    c.self.invariant.1)) c.from_slice-2.ensures.items
