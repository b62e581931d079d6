use Rattle.std.proofs.Common.{arith}
use Rattle.regalloc2_checker.proofs.NamedPlaces.{added-none, added-more, added-all}
use Rattle.regalloc2_checker.proofs.names.list_places.Goals as goal

pub loop-k-init : goal.loop-k-init
loop-k-init g c = added-none c.args.bits.now

pub loop-k-preserved : goal.loop-k-preserved
loop-k-preserved g c = added-more c.args.bits.now c.loop-k.bits c.list.new.self c.args.places.now c.loop-k.k
    c.index-places-k.result (omega (arith, c.loop-k-test.true)) c.index-places-k.is c.loop-k.invariant c.in_ok-list.ensures

pub returns : goal.returns
returns g c = added-all c.args.bits.now c.loop-k.bits c.args.places.now c.loop-k.k (omega (arith, c.loop-k-test.false)) c.loop-k.invariant
