use Rattle.std.proofs.Common.{◌<◌, length, refl, arith, below_more, sym, ◌∙◌}
use Rattle.regalloc2_function.specs.FunctionValue.{FunctionValue, inst_at}
use Rattle.std.specs.Prelude.{All}
use Rattle.regalloc2_function.specs.WellFormed.{AreUnlimited}
use Rattle.regalloc2_fastalloc_state.specs.Validate.NoLimits.{IsTakenOperand}
use Rattle.std.proofs.lemmas.Bool.{false≢true}
use Rattle.regalloc2_fastalloc_state.proofs.validate.constraints.validate_limits.Goals as goal

pub returns-then-not-has_no_limit-clause-ok : goal.returns-then-not-has_no_limit-clause-ok
returns-then-not-has_no_limit-clause-ok g c =
    let f : FunctionValue = g.F.Function.function c.args.f.now in
    let less : c.loop-i.i < length f.insts = omega (arith, c.loop-i.invariant.within) in
    (λ h. absurd (false≢true h), λ all. absurd (false≢true (sym c.if-not-has_no_limit.true ∙ c.has_no_limit.ensures.unlimited.1 (rw c.new-inst.ensures (all c.loop-i.i less)))))

pub returns-then-not-has_no_limit-clause-first : goal.returns-then-not-has_no_limit-clause-first
returns-then-not-has_no_limit-clause-first g c =
    let f : FunctionValue = g.F.Function.function c.args.f.now in
    let less : c.new-inst.result < length f.insts = omega (arith, c.loop-i.invariant.within, c.new-inst.ensures) in (
      c.new-inst.result,
      refl,
      (
        less,
        λ h. absurd (false≢true (sym c.if-not-has_no_limit.true ∙ c.has_no_limit.ensures.unlimited.1 h)),
        λ m low. c.loop-i.invariant.so_far m (omega (arith, c.new-inst.ensures)),
      ),
    )

pub loop-i-preserved : goal.loop-i-preserved
loop-i-preserved g c =
    let f : FunctionValue = g.F.Function.function c.args.f.now in
    record {
      within = c.loop-i.invariant.within;
      so_far = below_more (λ n. AreUnlimited (inst_at f n)) _ c.loop-i.invariant.so_far
          (rw c.new-inst.ensures at (c.has_no_limit.ensures.unlimited.0 c.if-not-has_no_limit.false));
      taken = below_more (λ n. All IsTakenOperand (inst_at f n).operands) _ c.loop-i.invariant.taken
          (rw c.new-inst.ensures at (c.has_no_limit.ensures.taken c.if-not-has_no_limit.false));
    }
