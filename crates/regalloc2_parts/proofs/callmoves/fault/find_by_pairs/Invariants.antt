use Rattle.regalloc2_parts.specs.Callmoves.CallMoves.{HasNone, HasOtherSource}
use Rattle.regalloc2_parts.proofs.callmoves.fault.find_by_pairs.Given as goal

abbrev pub invariant-loop-at : goal.invariant-loop-at
invariant-loop-at l = HasNone l.at (HasOtherSource l.moves)
