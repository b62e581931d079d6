use Rattle.regalloc2_parts.specs.Callmoves.CallMoves.{HasNone, NamesNoPlace}
use Rattle.regalloc2_parts.proofs.callmoves.fault.find_none.Given as goal

abbrev pub invariant-loop-at : goal.invariant-loop-at
invariant-loop-at l = HasNone l.at (NamesNoPlace l.moves)
