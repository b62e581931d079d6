use Rattle.std.proofs.Common.{◌<◌, length, refl, arith, below_more, sym, ◌∙◌}
use Rattle.regalloc2_function.specs.FunctionValue.{FunctionValue, inst_at}
use Rattle.regalloc2_function.specs.WellFormed.{FixedAvoidClobbers}
use Rattle.std.proofs.lemmas.Bool.{false≢true}
use Rattle.regalloc2_fastalloc_state.proofs.validate.constraints.validate_clobbers.Goals as goal

pub returns-then-not-passes_clobber_test-clause-ok : goal.returns-then-not-passes_clobber_test-clause-ok
returns-then-not-passes_clobber_test-clause-ok g c =
    let f : FunctionValue = g.F.Function.function c.args.f.now in
    let less : c.loop-i.i < length f.insts = omega (arith, c.loop-i.invariant.within) in
    (λ h. absurd (false≢true h), λ all. absurd (false≢true (sym c.if-not-passes_clobber_test.true ∙ c.passes_clobber_test.ensures.1 (rw c.new-inst.ensures (all c.loop-i.i less)))))

pub returns-then-not-passes_clobber_test-clause-first : goal.returns-then-not-passes_clobber_test-clause-first
returns-then-not-passes_clobber_test-clause-first g c =
    let f : FunctionValue = g.F.Function.function c.args.f.now in
    let less : c.new-inst.result < length f.insts = omega (arith, c.loop-i.invariant.within, c.new-inst.ensures) in (
      c.new-inst.result,
      refl,
      (
        less,
        λ h. absurd (false≢true (sym c.if-not-passes_clobber_test.true ∙ c.passes_clobber_test.ensures.1 h)),
        λ m low. c.loop-i.invariant.so_far m (omega (arith, c.new-inst.ensures)),
      ),
    )

pub loop-i-preserved : goal.loop-i-preserved
loop-i-preserved g c =
    let f : FunctionValue = g.F.Function.function c.args.f.now in
    record {
      within = c.loop-i.invariant.within;
      so_far = below_more (λ n. FixedAvoidClobbers (inst_at f n)) _ c.loop-i.invariant.so_far
          (rw c.new-inst.ensures at (c.passes_clobber_test.ensures.0 c.if-not-passes_clobber_test.false));
    }
