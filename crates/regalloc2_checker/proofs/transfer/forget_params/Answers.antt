use Rattle.std.proofs.Common.{ℕ, List, sym, subst, arith, ap, ◌∙◌, cond, false}
use Rattle.regalloc2_checker.specs.Facts.{Facts}
use Rattle.regalloc2_checker.specs.TableFacts.{facts_now, IsListedVReg}
use Rattle.regalloc2_checker.proofs.RestOfList.{others-kept, others-more, vreg-listed, without-more, without-none}
use Rattle.regalloc2_checker.proofs.TableSteps.{kept-same, kept-twice}
use Rattle.regalloc2_checker.proofs.transfer.forget_params.Goals as goal

pub loop-k-init : goal.loop-k-init
loop-k-init g c = record {
  kept = kept-same c.args.values.now;
  others = others-kept c.args.params.now c.args.arguments.now (facts_now c.args.values.now);
  without = without-none c.args.params.now (facts_now c.args.values.now);
}

pub forget-requires : goal.forget-requires
forget-requires g c =
    subst (λ (vs : List ℕ). IsListedVReg vs c.index-params-k.result) (sym c.loop-k.invariant.kept.vregs)
    (vreg-listed c.args.values.now.vregs c.args.params.now c.loop-k.k c.index-params-k.result (omega (arith, c.loop-k-test.true, c.min-count.ensures))
    c.index-params-k.is c.requires)

pub loop-k-preserved : goal.loop-k-preserved
loop-k-preserved g c = record {
  kept = kept-twice c.args.values.now c.loop-k.values c.forget.new.values c.loop-k.invariant.kept c.in_ok-forget.ensures.kept;
  others = others-more c.args.params.now c.args.arguments.now c.loop-k.k c.index-params-k.result (facts_now c.args.values.now) (facts_now c.loop-k.values)
      (facts_now c.forget.new.values) (omega (arith, c.loop-k-test.true, c.min-count.ensures)) (omega (arith, c.loop-k-test.true, c.min-count.ensures))
      c.index-params-k.is (λ q v is. ap (λ (X : Facts). X q v) c.in_ok-forget.ensures.now ∙ ap (λ b. cond b false (facts_now c.loop-k.values q v)) is)
      c.loop-k.invariant.others;
  without = without-more c.args.params.now c.loop-k.k c.index-params-k.result (facts_now c.args.values.now) (facts_now c.loop-k.values)
      (facts_now c.forget.new.values) (omega (arith, c.loop-k-test.true, c.min-count.ensures)) c.index-params-k.is c.loop-k.invariant.without
      c.in_ok-forget.ensures.now;
}
