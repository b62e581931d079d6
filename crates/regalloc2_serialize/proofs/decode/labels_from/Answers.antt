use Rattle.std.proofs.Common.{arith, refl, get_or}
use Rattle.std.proofs.lemmas.List.{take_all, take_more}
use Rattle.regalloc2_function.specs.FunctionValue.{label_of}
use Rattle.regalloc2_serialize.specs.Decoded.{stored_label}
use Rattle.regalloc2_serialize.proofs.Lists.{map-both}
use Rattle.regalloc2_serialize.proofs.decode.labels_from.Goals as goal

pub from_bits-requires : goal.from_bits-requires
from_bits-requires g c = c.requires c.loop-label.label-index (0, 0, 0, 0) c.loop-label-test.true

pub returns : goal.returns
returns g c = rw (take_all c.loop-label.label-index c.args.labels.now (omega (arith, c.loop-label-test.false))) at c.loop-label.invariant

pub loop-label-init : goal.loop-label-init
loop-label-init g c = rw c.in_ok-named.ensures.items refl

pub loop-label-preserved : goal.loop-label-preserved
loop-label-preserved g c =
    let labels = c.args.labels.now in
    let i = c.loop-label.label-index in
    rw (take_more labels i (0, 0, 0, 0) c.loop-label-test.true)
    (map-both label_of stored_label _ _ _ _ (get_or labels i (0, 0, 0, 0)) c.in_ok-push.ensures.items
    (rw (c.from_bits.ensures.vreg, c.new-start.ensures, c.new-end.ensures) refl) c.loop-label.invariant)
