use Rattle.std.proofs.Common.{◌≤◌, length}
use Rattle.regalloc2_checker.proofs.VRegsInPlace.{AreFound}
use Rattle.regalloc2_checker.proofs.vregs_in.vregs_in.Given as goal

-- the vregs of the first k bits are found
abbrev pub invariant-loop-k : goal.invariant-loop-k
invariant-loop-k g l = record {
  low : l.k ≤ length l.members.items;
  found : AreFound l.members.items l.k l.found.items;
}
