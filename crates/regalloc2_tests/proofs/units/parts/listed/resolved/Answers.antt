use Rattle.std.proofs.Common.{lit<, sym, subst, ◌∙◌}
use Rattle.regalloc2_parts.specs.AtOnce.{ends_of, HasOneSourceEach}
use Rattle.regalloc2_tests.proofs.units.parts.listed.resolved.Goals as goal

pub resolve-requires : goal.resolve-requires
resolve-requires g c = (
  lit< tt,
  (
    lit< tt,
    subst (λ xs. HasOneSourceEach (ends_of xs)) (c.as_mut_slice.ensures.value ∙ sym c.loop-from.invariant)
        (c.has_one_source_each.ensures c.if-not-has_one_source_each.false),
  ),
)
