use Rattle.regalloc2_parts.proofs.CallmovesLemmas.CallPlaces.{AreNamed}
use Rattle.regalloc2_parts.proofs.callmoves.fault.named_registers.Given as goal

abbrev pub invariant-loop-at : goal.invariant-loop-at
invariant-loop-at l = AreNamed l.moves l.at l.named
