use Rattle.std.proofs.Common.{arith}
use Rattle.regalloc2_checker.specs.Showing.{shows_now}
use Rattle.regalloc2_checker.proofs.RestOfList.{vreg-listed, holders-more}
use Rattle.regalloc2_checker.proofs.transfer.holders_of_all.Goals as goal

pub holders-requires : goal.holders-requires
holders-requires g c = vreg-listed c.args.values.now.vregs c.args.vregs.now c.loop-k.k c.index-vregs-k.result (omega (arith, c.loop-k-test.true))
    c.index-vregs-k.is c.requires

pub loop-k-preserved : goal.loop-k-preserved
loop-k-preserved g c = holders-more c.args.values.now.places
    (shows_now c.args.values.now) c.args.vregs.now c.loop-k.had.items c.push.new.self.items _ c.loop-k.k
    c.index-vregs-k.result c.in_ok-push.ensures.items c.loop-k.invariant.long c.index-vregs-k.is (omega (arith, c.loop-k-test.true))
    c.in_ok-holders.ensures c.loop-k.invariant.holders
