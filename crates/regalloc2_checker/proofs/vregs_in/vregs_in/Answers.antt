use Rattle.std.proofs.Common.{sym, arith}
use Rattle.regalloc2_checker.proofs.VRegsInPlace.{found_none, found_skip, found_more, found_all, found_nowhere}
use Rattle.regalloc2_checker.proofs.vregs_in.vregs_in.Goals as goal

pub returns-in_default : goal.returns-in_default
returns-in_default g c =
    found_nowhere c.args.values.now c.args.place c.new-found.result.items (sym c.in_default.ensures.position) c.new-found.ensures.items

pub loop-k-init : goal.loop-k-init
loop-k-init g c = record { low = omega arith; found = found_none c.in_ok-members.members.items c.new-found.result.items c.new-found.ensures.items }

pub loop-k-preserved-in_default-vreg_of : goal.loop-k-preserved-in_default-vreg_of
loop-k-preserved-in_default-vreg_of g c = record {
  low = omega (arith, c.loop-k-test.true);
  found = found_skip c.in_ok-members.members.items c.loop-k.k c.index.result.now c.loop-k.found.items (omega (arith, c.loop-k-test.true)) c.index.ensures
      c.in_default-vreg_of.ensures.vreg c.loop-k.invariant.found;
}

pub loop-k-preserved : goal.loop-k-preserved
loop-k-preserved g c = record {
  low = omega (arith, c.loop-k-test.true);
  found = found_more c.in_ok-members.members.items c.loop-k.k c.index.result.now c.in-Some-vreg_of.vreg c.loop-k.found.items c.push.new.self.items
      c.in_ok-members.ensures.rising (omega (arith, c.loop-k-test.true)) c.index.ensures c.in-Some-vreg_of.ensures.vreg c.vreg_of.ensures.small
      c.in_ok-push.ensures.items
      c.loop-k.invariant.found;
}

pub returns : goal.returns
returns g c =
    found_all c.args.values.now c.args.place c.in-Some.position c.in_ok-members.members.items c.loop-k.k c.loop-k.found.items
    (sym c.in-Some.ensures.position) c.position.ensures.packed c.in_ok-members.ensures.members (omega (arith, c.loop-k-test.false)) c.loop-k.invariant.low
    c.loop-k.invariant.found
