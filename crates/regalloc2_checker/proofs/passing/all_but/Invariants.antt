use Rattle.std.proofs.Common.{take}
use Rattle.regalloc2_checker.proofs.Shown.{AreWithout}
use Rattle.regalloc2_checker.proofs.passing.all_but.Given as goal

-- the first numbers were gone over
abbrev pub invariant-loop-other : goal.invariant-loop-other
invariant-loop-other g l = AreWithout l.left.items (take l.other-index l.numbers) l.number
