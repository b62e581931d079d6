use Rattle.std.proofs.Common.{sym, ◌∙◌, refl, arith, subst}
use Rattle.regalloc2_checker.specs.TableFacts.{facts_now, IsMissingUnlisted}
use Rattle.regalloc2_checker.proofs.RestOfList.{early_step, early_done}
use Rattle.regalloc2_checker.proofs.TableSteps.{kept-same, kept-twice}
use Rattle.regalloc2_checker.proofs.transfer.clear_early_defs.Goals as goal

pub loop-k-init : goal.loop-k-init
loop-k-init g c = record { kept = kept-same c.args.values.now; now = refl }

pub clear_early_def-requires : goal.clear_early_def-requires
clear_early_def-requires g c = subst IsMissingUnlisted (sym c.loop-k.invariant.kept.places) c.requires

pub loop-k-preserved : goal.loop-k-preserved
loop-k-preserved g c = record {
  kept = kept-twice c.args.values.now c.loop-k.values c.clear_early_def.new.values c.loop-k.invariant.kept c.clear_early_def.ensures.kept;
  now = sym (early_step c.args.places.now c.args.operands.now c.loop-k.k c.index-operands-k.result (facts_now c.loop-k.values)
      (facts_now c.clear_early_def.new.values) (omega (arith, c.loop-k-test.true)) c.index-operands-k.is
      c.clear_early_def.ensures.now)
      ∙ c.loop-k.invariant.now;
}

pub returns : goal.returns
returns g c = record {
  kept = c.loop-k.invariant.kept;
  now = sym (early_done c.args.places.now c.args.operands.now c.loop-k.k (facts_now c.loop-k.values) (omega (arith, c.loop-k-test.false)))
      ∙ c.loop-k.invariant.now;
}
