use Rattle.std.proofs.Common.{◌<◌, arith}
use Rattle.regalloc2_function.proofs.ListsInParts.{all_more, all_taken, first_here}
use Rattle.regalloc2_function.proofs.blocks.first_outside.Goals as goal

pub returns-then-index-num_blocks-clause-first : goal.returns-then-index-num_blocks-clause-first
returns-then-index-num_blocks-clause-first c = first_here (λ s. s < c.args.num_blocks) c.args.blocks.now c.loop-block.block-index c.block-item.result
    c.loop-block-test.true c.block-item.is c.loop-block.invariant (λ h. omega (arith, c.index.ensures))

pub loop-block-preserved : goal.loop-block-preserved
loop-block-preserved c = all_more (λ s. s < c.args.num_blocks) c.args.blocks.now c.loop-block.block-index c.block-item.result c.loop-block-test.true
    c.block-item.is c.loop-block.invariant (omega (arith, c.index.ensures))

pub returns-clause-none : goal.returns-clause-none
returns-clause-none c = all_taken (λ s. s < c.args.num_blocks) c.args.blocks.now c.loop-block.block-index (omega arith) c.loop-block.invariant
