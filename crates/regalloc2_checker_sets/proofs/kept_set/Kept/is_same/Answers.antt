use Rattle.std.proofs.Common.{ℕ, ◌≡◌, arith, sym, refl, subst}
use Rattle.regalloc2_function.specs.Numbers.{NumberSet}
use Rattle.regalloc2_checker_sets.specs.EntrySets.{has_bits}
use Rattle.regalloc2_checker_sets.proofs.Bits.{same-members}
use Rattle.regalloc2_checker_sets.proofs.TwoSets.{kept-many, not-none}
use Rattle.regalloc2_checker_sets.proofs.kept_set.Kept.is_same.Goals as goal

pub returns : goal.returns
returns g c e =
    let k = c.self.inside in
    let some = not-none _ c.if-is_empty.ensures in
    subst (λ (s : NumberSet). (y : ℕ) → has_bits s y ≡ has_bits c.args.set.now y)
    (sym (kept-many k.first k.second k.many.items c.args.self.now c.index-many.result.now c.self.view_is (omega (arith, some, k.many.ok.0)) c.index-many.ensures))
    (same-members (has_bits c.index-many.result.now) (has_bits c.args.set.now) (c.if-not-is_part.ensures refl) (c.is_part-2.ensures e))
