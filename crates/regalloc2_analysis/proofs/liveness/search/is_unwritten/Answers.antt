use Rattle.std.proofs.Common.{ℕ, ◌+◌, ◌<◌, ◌∙◌, length, ap, subst, arith}
use Rattle.regalloc2_index.proofs.Bools.{false_refutes}
use Rattle.regalloc2_index.specs.Range.{Span, numbers_of}
use Rattle.regalloc2_index.proofs.RangeWalks.{ends_at, next_at, one_further, walked_more}
use Rattle.regalloc2_function.specs.FunctionValue.{FunctionValue, block_at}
use Rattle.regalloc2_function.proofs.Following.{end_within}
use Rattle.regalloc2_analysis.specs.Liveness.LiveIn.{IsUnwrittenTo}
use Rattle.regalloc2_analysis.proofs.LivenessLemmas.SearchedBack.{unwritten_next}
use Rattle.regalloc2_analysis.proofs.liveness.search.is_unwritten.Goals as goal

pub loop-inst-init : goal.loop-inst-init
loop-inst-init g c = record {
  left = c.into_iter-inst-iterator.ensures.into_iter_gives ∙ c.iter-inst-items.ensures ∙ ap numbers_of c.block_insns.ensures;
  so_far = λ j low high. absurd (omega (arith, low, high));
}

pub inst_operands-requires : goal.inst_operands-requires
inst_operands-requires g c =
    let f : FunctionValue = g.F.Function.function c.args.f.now in
    let at = next_at (block_at f c.args.block).range c.loop-inst.yielded c.loop-inst.inst-iterator c.next.new.self c.in-Some.inst c.loop-inst.invariant.left
    c.in-Some.ensures.steps in
    omega (arith, end_within f c.requires.framed.follow c.args.block c.requires.block, at.1)

pub loop-inst-preserved : goal.loop-inst-preserved
loop-inst-preserved g c =
    let f : FunctionValue = g.F.Function.function c.args.f.now in
    let range : Span = (block_at f c.args.block).range in
    let at = next_at range c.loop-inst.yielded c.loop-inst.inst-iterator c.next.new.self c.in-Some.inst c.loop-inst.invariant.left c.in-Some.ensures.steps in
    let here : ℕ = range.first + length c.loop-inst.yielded in
    record {
      left = walked_more range c.loop-inst.yielded c.loop-inst.inst-iterator c.next.new.self c.in-Some.inst c.loop-inst.invariant.left c.in-Some.ensures.steps;
      so_far = subst (λ (i : ℕ). IsUnwrittenTo f c.args.block i c.args.vreg) (one_further range.first c.loop-inst.yielded c.in-Some.inst)
          (unwritten_next f c.args.block c.args.vreg here c.loop-inst.invariant.so_far
          (rw (c.inst_operands.ensures, at.0) at (false_refutes c.is_defined.result c.if-is_defined.false c.is_defined.ensures.1)));
    }

pub returns : goal.returns
returns g c = λ yes j low high.
    let f : FunctionValue = g.F.Function.function c.args.f.now in
    let range : Span = (block_at f c.args.block).range in
    let some : range.first < range.end = (c.requires.framed.follow c.args.block c.requires.block).0 in
    let e = ends_at range c.loop-inst.yielded c.loop-inst.inst-iterator (omega (arith, some)) c.loop-inst.invariant.left c.in-None.ensures.steps.0 in
    c.loop-inst.invariant.so_far j low (omega (arith, e, high))
