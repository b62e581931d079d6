use Rattle.std.proofs.Common.{ℕ, ◌+◌, ◌<◌, ◌∙◌, length, ap, subst, arith}
use Rattle.regalloc2_index.specs.Range.{Span, numbers_of}
use Rattle.regalloc2_index.proofs.RangeWalks.{begins_at, ends_at, next_at, one_further, walked_more as range_more}
use Rattle.regalloc2_function.specs.FunctionValue.{FunctionValue, block_at}
use Rattle.regalloc2_function.proofs.Following.{end_within}
use Rattle.regalloc2_analysis.specs.Liveness.BlockWalk.{IsBlockWalkedTo}
use Rattle.regalloc2_analysis.proofs.LivenessLemmas.LiveAtBlockBegin.{walked_more, walked_start}
use Rattle.regalloc2_analysis.proofs.liveness.walk.walk_insts.Goals as goal

pub loop-inst-init : goal.loop-inst-init
loop-inst-init g c =
    let f : FunctionValue = g.F.Function.function c.args.f.now in
    let range : Span = (block_at f c.args.block).range in
    record {
      left = c.into_iter-inst-iterator.ensures.into_iter_gives ∙ c.iter-inst-items.ensures ∙ ap numbers_of c.block_insns.ensures;
      so_far = walked_start f c.args.block (range.first + 0) c.args.written.now c.args.needs.now (begins_at range.first) c.requires.fresh;
    }

pub inst_operands-requires : goal.inst_operands-requires
inst_operands-requires g c =
    let f : FunctionValue = g.F.Function.function c.args.f.now in
    let at = next_at (block_at f c.args.block).range c.loop-inst.yielded c.loop-inst.inst-iterator c.next.new.self c.in-Some.inst c.loop-inst.invariant.left
    c.in-Some.ensures.steps in
    omega (arith, end_within f c.requires.framed.follow c.args.block c.requires.block, at.1)

pub loop-inst-preserved : goal.loop-inst-preserved
loop-inst-preserved g c =
    let f : FunctionValue = g.F.Function.function c.args.f.now in
    let range : Span = (block_at f c.args.block).range in
    let at = next_at range c.loop-inst.yielded c.loop-inst.inst-iterator c.next.new.self c.in-Some.inst c.loop-inst.invariant.left c.in-Some.ensures.steps in
    let here : ℕ = range.first + length c.loop-inst.yielded in
    record {
      left = range_more range c.loop-inst.yielded c.loop-inst.inst-iterator c.next.new.self c.in-Some.inst c.loop-inst.invariant.left c.in-Some.ensures.steps;
      so_far = subst (λ (i : ℕ). IsBlockWalkedTo f c.args.block i c.args.written.now c.args.needs.now c.walk_inst.new.written c.walk_inst.new.needs)
          (one_further range.first c.loop-inst.yielded c.in-Some.inst)
          (walked_more f c.args.block here c.args.written.now c.args.needs.now c.loop-inst.written c.loop-inst.needs c.walk_inst.new.written
          c.walk_inst.new.needs
          c.requires.block (omega arith) (omega (arith, at.0, at.1)) c.loop-inst.invariant.so_far
          (rw (c.inst_operands.ensures, at.0) at c.in_ok-walk_inst.ensures.written)
          (rw (c.inst_operands.ensures, at.0) at c.in_ok-walk_inst.ensures.needs));
    }

pub returns : goal.returns
returns g c =
    let f : FunctionValue = g.F.Function.function c.args.f.now in
    let range : Span = (block_at f c.args.block).range in
    let some : range.first < range.end = (c.requires.framed.follow c.args.block c.requires.block).0 in
    let e = ends_at range c.loop-inst.yielded c.loop-inst.inst-iterator (omega (arith, some)) c.loop-inst.invariant.left c.in-None.ensures.steps.0 in
    subst (λ (i : ℕ). IsBlockWalkedTo f c.args.block i c.args.written.now c.args.needs.now c.loop-inst.written c.loop-inst.needs) e
    c.loop-inst.invariant.so_far
