use Rattle.std.proofs.Common.{arith, refl}
use Rattle.std.proofs.lemmas.List.{take_all}
use Rattle.regalloc2_names.specs.Packing.{register_of_bits}
use Rattle.regalloc2_serialize.proofs.Lists.{more-of-image}
use Rattle.regalloc2_serialize.proofs.flat.columns.typed.registers_of.Goals as goal

pub loop-word-preserved : goal.loop-word-preserved
loop-word-preserved g c =
    rw c.in_ok-push.ensures.items (more-of-image register_of_bits c.args.words.now c.loop-word.registers.items c.loop-word.word-index 0 c.from_index.result
    c.loop-word-test.true c.from_index.ensures.register c.loop-word.invariant)

pub returns : goal.returns
returns g c = rw (take_all c.loop-word.word-index c.args.words.now (omega (arith, c.loop-word-test.false))) at c.loop-word.invariant

pub loop-word-init : goal.loop-word-init
loop-word-init g c = rw c.in_ok-registers.ensures.items refl
