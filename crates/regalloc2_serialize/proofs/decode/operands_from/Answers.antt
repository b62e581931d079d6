use Rattle.std.proofs.Common.{arith, refl}
use Rattle.std.proofs.lemmas.List.{take_all}
use Rattle.regalloc2_names.specs.Packing.{operand_of_bits}
use Rattle.regalloc2_serialize.proofs.Lists.{more-of-image}
use Rattle.regalloc2_serialize.proofs.decode.operands_from.Goals as goal

pub loop-word-preserved : goal.loop-word-preserved
loop-word-preserved g c =
    rw c.in_ok-push.ensures.items (more-of-image operand_of_bits c.args.words.now c.loop-word.operands.items c.loop-word.word-index 0 c.from_bits.result
    c.loop-word-test.true c.from_bits.ensures.operand c.loop-word.invariant)

pub returns : goal.returns
returns g c = rw (take_all c.loop-word.word-index c.args.words.now (omega (arith, c.loop-word-test.false))) at c.loop-word.invariant

pub loop-word-init : goal.loop-word-init
loop-word-init g c = rw c.in_ok-operands.ensures.items refl
