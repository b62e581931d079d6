use Rattle.std.proofs.Common.{◌≡◌}
use Rattle.regalloc2_parts.specs.Picked.{accepts, left_from}
use Rattle.regalloc2_parts.proofs.iter.next_picked.Given as goal

-- none before i is selected
abbrev pub invariant-loop-i : goal.invariant-loop-i
invariant-loop-i l = left_from (accepts l.pick) l.from l.operands ≡ left_from (accepts l.pick) l.i l.operands
