use Rattle.regalloc2_checker.specs.CellFaults.{AreTurned}
use Rattle.regalloc2_checker.proofs.SweptSlots.{AreSwept}
use Rattle.regalloc2_checker.proofs.cells.test_apart.Given as goal

-- the slots so far are apart
abbrev pub invariant-loop-k : goal.invariant-loop-k
invariant-loop-k l = record {
  turned : AreTurned l.by_last l.named;
  swept : AreSwept l.by_last l.named l.k l.slots;
}
