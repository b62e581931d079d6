use Rattle.std.proofs.Common.{arith, refl}
use Rattle.std.proofs.lemmas.List.{take_all}
use Rattle.regalloc2_serialize.proofs.Lists.{copy-more}
use Rattle.regalloc2_serialize.proofs.encode.numbers_of_blocks.Goals as goal

pub loop-block-preserved : goal.loop-block-preserved
loop-block-preserved g c =
    rw c.in_ok-push.ensures.items (copy-more c.loop-block.numbers.items c.args.blocks.now c.loop-block.block-index c.raw_u32.result c.block-item.result
    c.loop-block-test.true c.block-item.is c.raw_u32.ensures c.loop-block.invariant)

pub returns : goal.returns
returns g c = rw (take_all c.loop-block.block-index c.args.blocks.now (omega (arith, c.loop-block-test.false))) at c.loop-block.invariant

pub loop-block-init : goal.loop-block-init
loop-block-init g c = rw c.in_ok-numbers.ensures.items refl
