use Rattle.std.proofs.Common.{arith, refl}
use Rattle.std.proofs.lemmas.List.{take_all}
use Rattle.regalloc2_names.specs.Packing.{register_of_bits}
use Rattle.regalloc2_serialize.proofs.Lists.{more-of-image}
use Rattle.regalloc2_serialize.proofs.decode.registers_from.Goals as goal

pub loop-index-preserved : goal.loop-index-preserved
loop-index-preserved g c =
    rw c.in_ok-push.ensures.items (more-of-image register_of_bits c.args.indexes.now c.loop-index.registers.items c.loop-index.index-index 0 c.from_index.result
    c.loop-index-test.true (rw c.from.ensures at c.from_index.ensures.register) c.loop-index.invariant)

pub returns : goal.returns
returns g c = rw (take_all c.loop-index.index-index c.args.indexes.now (omega (arith, c.loop-index-test.false))) at c.loop-index.invariant

pub loop-index-init : goal.loop-index-init
loop-index-init g c = rw c.in_ok-registers.ensures.items refl
