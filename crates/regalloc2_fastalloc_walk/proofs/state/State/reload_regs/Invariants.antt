use Rattle.std.proofs.Common.{◌≡◌, length}
use Rattle.regalloc2_fastalloc_proofs.specs.BlockStart.{ReloadsRegs}
use Rattle.regalloc2_fastalloc_proofs.specs.InstSteps.{SameMachine}
use Rattle.regalloc2_fastalloc_walk.specs.StateView.{tables_of}
use Rattle.regalloc2_fastalloc_state.specs.StateParts.{AllAtOrAfter}
use Rattle.regalloc2_fastalloc_walk.proofs.state.State.reload_regs.Given as goal

abbrev pub invariant-loop-preg : goal.invariant-loop-preg
invariant-loop-preg g l = record {
  done : ReloadsRegs l.point l.fn.inst_regs (tables_of l.fn.self) l.inst_regs (tables_of l.self);
  later : AllAtOrAfter l.point l.self.edits;
  long : length l.self.places.vreg_allocs ≡ length l.fn.self.places.vreg_allocs;
  machine : SameMachine (tables_of l.fn.self) (tables_of l.self);
}

-- how many vregs are still in registers
abbrev pub decreases-loop-preg : goal.decreases-loop-preg
decreases-loop-preg g l = length l.self.places.in_registers
