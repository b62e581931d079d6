use Rattle.std.proofs.Common.{subst, sym, refl, arith}
use Rattle.std.specs.Prelude.{All}
use Rattle.std.proofs.lemmas.List.{take_all}
use Rattle.std.proofs.lemmas.List.Elements.{All-more}
use Rattle.regalloc2_serialize.specs.Validity.{NamesOperands}
use Rattle.std.proofs.lemmas.Bool.{false≢true}
use Rattle.regalloc2_serialize.proofs.validate.are_insts.Goals as goal

pub returns-then-not-names_operands : goal.returns-then-not-names_operands
returns-then-not-names_operands g c = (
  λ h. absurd (false≢true h),
  λ all. c.if-not-names_operands.ensures.1 (subst (λ i. NamesOperands i) (sym c.inst-item.is)
      (all c.loop-inst.inst-index c.inst-item.result c.loop-inst-test.true)),
)

pub loop-inst-preserved : goal.loop-inst-preserved
loop-inst-preserved g c =
    All-more (λ i. NamesOperands i) c.args.insts.now c.loop-inst.inst-index c.inst-item.result c.loop-inst-test.true c.loop-inst.invariant
    (subst (λ i. NamesOperands i) c.inst-item.is (c.if-not-names_operands.ensures.0 refl))

pub returns : goal.returns
returns g c = (
  λ _. subst (λ xs. All (λ i. NamesOperands i) xs) (take_all c.loop-inst.inst-index c.args.insts.now (omega (arith, c.loop-inst-test.false)))
      c.loop-inst.invariant,
  λ _. refl,
)
