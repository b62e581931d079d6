use Rattle.std.proofs.Common.{refl}
use Rattle.regalloc2_function.specs.FunctionValue.{FunctionValue}
use Rattle.regalloc2_analysis.specs.Liveness.BlockWalk.{IsBlockWalked}
use Rattle.regalloc2_analysis.proofs.LivenessLemmas.LiveAtBlockBegin.{asked_more, asked_start, writes_more, writes_start}
use Rattle.regalloc2_analysis.proofs.liveness.walk.walk_blocks.Goals as goal

pub loop-b-init : goal.loop-b-init
loop-b-init g c =
    let f : FunctionValue = g.F.Function.function c.args.f.now in
    record {
      end = c.num_blocks-b-end.ensures.count;
      written = writes_start f 0 c.args.written.now refl c.requires.unwritten;
      asked = asked_start f 0 c.args.needs.now refl c.requires.none;
    }

pub loop-b-preserved : goal.loop-b-preserved
loop-b-preserved g c =
    let f : FunctionValue = g.F.Function.function c.args.f.now in
    let here : IsBlockWalked f c.loop-b.b c.loop-b.written c.loop-b.needs c.walk_block.new.written
    c.walk_block.new.needs = rw c.new.ensures at c.in_ok-walk_block.ensures in
    record {
      end = c.loop-b.invariant.end;
      written = writes_more f c.loop-b.b c.loop-b.written c.loop-b.needs c.walk_block.new.written c.walk_block.new.needs c.loop-b.invariant.written here;
      asked = asked_more f c.loop-b.b c.loop-b.written c.loop-b.needs c.walk_block.new.written c.walk_block.new.needs c.loop-b.invariant.asked here;
    }
