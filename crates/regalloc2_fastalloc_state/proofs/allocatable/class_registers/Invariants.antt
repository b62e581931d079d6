use Rattle.regalloc2_fastalloc_state.specs.StateParts.{AreThoseBelow}
use Rattle.regalloc2_fastalloc_state.proofs.allocatable.class_registers.Given as goal

abbrev pub invariant-loop-number : goal.invariant-loop-number
invariant-loop-number g l = AreThoseBelow l.set l.class l.number l.regs.items
