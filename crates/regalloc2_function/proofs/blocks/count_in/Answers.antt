use Rattle.std.proofs.Common.{◌+◌, ◌<◌, ◌∙◌, get_or, length, ap, arith}
use Rattle.std.proofs.lemmas.List.{take_all}
use Rattle.regalloc2_function.specs.WellFormed.{times_in}
use Rattle.regalloc2_function.proofs.TimesInList.{counted_more, times-bound}
use Rattle.regalloc2_function.proofs.blocks.count_in.Goals as goal

pub bounds-counts-index : goal.bounds-counts-index
bounds-counts-index c =
    let there = c.requires.within c.loop-block.block-index c.block-item.result c.loop-block-test.true in
    omega (arith, there, c.block-item.is, c.index.ensures, c.loop-block.auto.counts)

pub overflow_add-counts : goal.overflow_add-counts
overflow_add-counts c =
    let there = c.requires.within c.loop-block.block-index c.block-item.result c.loop-block-test.true in
    let here : c.index.result < length c.args.counts.now = omega (arith, there, c.block-item.is, c.index.ensures) in
    let room = c.requires.room c.index.result here in
    let so_far = c.loop-block.invariant c.index.result in
    let few = times-bound c.index.result c.loop-block.block-index c.args.blocks.now in
    omega (arith, room, so_far, few, c.loop-block-test.true)

pub loop-block-preserved : goal.loop-block-preserved
loop-block-preserved c =
    let there = c.requires.within c.loop-block.block-index c.block-item.result c.loop-block-test.true in
    rw c.index.ensures (counted_more c.loop-block.counts c.args.counts.now c.args.blocks.now c.loop-block.block-index c.block-item.result
    c.loop-block-test.true c.block-item.is (omega (arith, there, c.block-item.is, c.loop-block.auto.counts)) c.loop-block.invariant)

pub returns : goal.returns
returns c = λ b. c.loop-block.invariant b ∙ ap (λ l. get_or c.args.counts.now b 0 + times_in b l)
    (take_all c.loop-block.block-index c.args.blocks.now (omega (arith, c.loop-block-test.false)))
