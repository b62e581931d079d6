use Rattle.regalloc2_parts.specs.Callmoves.CallMoves.{HasNone, IsNotFree}
use Rattle.regalloc2_parts.proofs.CallmovesLemmas.CallPlaces.{AreTaken}
use Rattle.regalloc2_parts.proofs.callmoves.fault.find_taken.Given as goal

abbrev pub invariant-loop-at : goal.invariant-loop-at
invariant-loop-at g l = AreTaken l.moves l.frame l.at l.taken × HasNone l.at (IsNotFree l.moves l.frame)
