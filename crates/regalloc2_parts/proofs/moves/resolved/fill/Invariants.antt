use Rattle.std.proofs.Common.{◌≡◌, ◌++◌, map, take, drop}
use Rattle.regalloc2_parts.specs.Resolved.{filled}
use Rattle.regalloc2_parts.proofs.moves.resolved.fill.Given as goal

abbrev pub invariant-loop-at : goal.invariant-loop-at
invariant-loop-at g l = l.moves ≡ map (filled l.scratch) (take l.at l.initial.moves) ++ drop l.at l.initial.moves
