use Rattle.regalloc2_parts.proofs.CallmovesLemmas.CallPlaces.{IsLowest}
use Rattle.regalloc2_parts.proofs.callmoves.fault.lowest_slot.Given as goal

abbrev pub invariant-loop-at : goal.invariant-loop-at
invariant-loop-at g l = IsLowest l.moves l.at l.start l.frame.slots.«end» l.lowest
