use Rattle.std.proofs.Common.{arith, refl}
use Rattle.std.proofs.lemmas.List.{take_all}
use Rattle.std.proofs.Common.{get_or}
use Rattle.std.proofs.lemmas.List.{get_or_default}
use Rattle.regalloc2_serialize.proofs.Lists.{copy-more}
use Rattle.regalloc2_serialize.proofs.decode.blocks_from.Goals as goal

pub loop-word-preserved : goal.loop-word-preserved
loop-word-preserved g c =
    let i = c.loop-word.word-index in
    let all = c.args.words.now in
    rw c.in_ok-push.ensures.items (copy-more c.loop-word.blocks.items all i c.new.result (get_or all i 0) c.loop-word-test.true
    (get_or_default all i 0 _ c.loop-word-test.true) c.new.ensures c.loop-word.invariant)

pub returns : goal.returns
returns g c = rw (take_all c.loop-word.word-index c.args.words.now (omega (arith, c.loop-word-test.false))) at c.loop-word.invariant

pub loop-word-init : goal.loop-word-init
loop-word-init g c = rw c.in_ok-blocks.ensures.items refl
