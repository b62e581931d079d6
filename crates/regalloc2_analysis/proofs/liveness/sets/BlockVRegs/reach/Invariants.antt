use Rattle.std.proofs.Common.{◌≡◌, ◌-◌, ◌+◌, length}
use Rattle.regalloc2_analysis.specs.Liveness.BlockVRegPairs.{Pair, holds}
use Rattle.regalloc2_analysis.proofs.liveness.sets.BlockVRegs.reach.Given as goal

-- the sets so far hold what they held
abbrev pub invariant-loop-block : goal.invariant-loop-block
invariant-loop-block g l = (p : Pair) → holds l.self-inside.sets.items p ≡ holds l.fn.self p

abbrev pub decreases-loop-block : goal.decreases-loop-block
decreases-loop-block g l = l.block + 1 - length l.self-inside.sets.items
