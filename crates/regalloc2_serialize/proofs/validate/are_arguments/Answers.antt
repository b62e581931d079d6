use Rattle.std.proofs.Common.{subst, sym, refl, arith}
use Rattle.std.specs.Prelude.{All}
use Rattle.std.proofs.lemmas.List.{take_all}
use Rattle.std.proofs.lemmas.List.Elements.{All-more}
use Rattle.regalloc2_names.specs.Packing.{IsVRegBits}
use Rattle.std.proofs.lemmas.Bool.{false≢true}
use Rattle.regalloc2_serialize.proofs.validate.are_arguments.Goals as goal

pub returns-then-not-are_lists_of_vregs : goal.returns-then-not-are_lists_of_vregs
returns-then-not-are_lists_of_vregs g c = (
  λ h. absurd (false≢true h),
  λ all. c.if-not-are_lists_of_vregs.ensures.1 (subst (All (λ k. All IsVRegBits k.items)) (sym c.as_slice.ensures.value) (subst (λ v. All (λ k. All IsVRegBits k.items) v.items) (sym c.list-item.is)
      (all c.loop-list.list-index c.list-item.result c.loop-list-test.true))),
)

pub loop-list-preserved : goal.loop-list-preserved
loop-list-preserved g c =
    All-more (λ v. All (λ k. All IsVRegBits k.items) v.items) c.args.lists.now c.loop-list.list-index c.list-item.result c.loop-list-test.true c.loop-list.invariant
    (subst (λ v. All (λ k. All IsVRegBits k.items) v.items) c.list-item.is (subst (All (λ k. All IsVRegBits k.items)) c.as_slice.ensures.value (c.if-not-are_lists_of_vregs.ensures.0 refl)))

pub returns : goal.returns
returns g c = (
  λ _. subst (λ vs. All (λ v. All (λ k. All IsVRegBits k.items) v.items) vs) (take_all c.loop-list.list-index c.args.lists.now (omega (arith, c.loop-list-test.false)))
      c.loop-list.invariant,
  λ _. refl,
)
