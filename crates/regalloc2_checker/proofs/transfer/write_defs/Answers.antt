use Rattle.std.proofs.Common.{ℕ, List, sym, ◌∙◌, refl, arith, subst}
use Rattle.regalloc2_function.specs.OutputValue.{place_at}
use Rattle.regalloc2_checker.specs.TableFacts.{facts_now, IsMissingUnlisted, IsListed, IsListedVReg}
use Rattle.regalloc2_checker.proofs.RestOfList.{defs_step, defs_done, place-listed, operand-listed}
use Rattle.regalloc2_checker.proofs.TableSteps.{kept-same, kept-twice}
use Rattle.regalloc2_checker.proofs.transfer.write_defs.Goals as goal

pub loop-k-init : goal.loop-k-init
loop-k-init g c = record { kept = kept-same c.args.values.now; now = refl }

pub loop-k-preserved : goal.loop-k-preserved
loop-k-preserved g c = record {
  kept = kept-twice c.args.values.now c.loop-k.values c.write_def.new.values c.loop-k.invariant.kept c.in_ok-write_def.ensures.kept;
  now = sym (defs_step c.args.places.now c.args.operands.now c.loop-k.k c.index-operands-k.result (facts_now c.loop-k.values)
      (facts_now c.write_def.new.values) (omega (arith, c.loop-k-test.true)) c.index-operands-k.is
      c.in_ok-write_def.ensures.now)
      ∙ c.loop-k.invariant.now;
}

pub write_def-requires-clause-missing : goal.write_def-requires-clause-missing
write_def-requires-clause-missing g c = subst IsMissingUnlisted (sym c.loop-k.invariant.kept.places) c.requires.missing

pub write_def-requires-clause-listed : goal.write_def-requires-clause-listed
write_def-requires-clause-listed g c =
    subst (λ (ps : List ℕ). IsListed ps (place_at c.args.places.now c.loop-k.k)) (sym c.loop-k.invariant.kept.places)
    (place-listed c.args.values.now.places c.args.places.now c.loop-k.k c.requires.listed)

pub write_def-requires-clause-vreg : goal.write_def-requires-clause-vreg
write_def-requires-clause-vreg g c =
    subst (λ (vs : List ℕ). IsListedVReg vs c.index-operands-k.result.vreg) (sym c.loop-k.invariant.kept.vregs)
    (operand-listed c.args.values.now.vregs c.args.operands.now c.loop-k.k c.index-operands-k.result (omega (arith, c.loop-k-test.true))
    c.index-operands-k.is c.requires.vregs)

pub returns : goal.returns
returns g c = record {
  kept = c.loop-k.invariant.kept;
  now = sym (defs_done c.args.places.now c.args.operands.now c.loop-k.k (facts_now c.loop-k.values) (omega (arith, c.loop-k-test.false)))
      ∙ c.loop-k.invariant.now;
}
