use Rattle.std.proofs.Common.{◌≡◌, ◌++◌, map, take}
use Rattle.regalloc2_names.specs.RegisterBits.{bits_of_vreg}
use Rattle.regalloc2_c.proofs.faults.push_vregs.Given as goal

abbrev pub invariant-loop-k : goal.invariant-loop-k
invariant-loop-k l = l.to.items ≡ l.fn.to.items ++ map bits_of_vreg (take l.k l.vregs)
