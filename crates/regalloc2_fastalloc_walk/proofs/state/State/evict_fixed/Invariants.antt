use Rattle.std.proofs.Common.{◌≡◌, length}
use Rattle.regalloc2_fastalloc_proofs.specs.InstSteps.{SameMachine, EvictsFixed}
use Rattle.regalloc2_fastalloc_walk.specs.StateView.{tables_of}
use Rattle.regalloc2_fastalloc_state.specs.StateParts.{AllAtOrAfter}
use Rattle.regalloc2_fastalloc_walk.proofs.state.State.evict_fixed.Given as goal

abbrev pub invariant-loop-k : goal.invariant-loop-k
invariant-loop-k g l = record {
  cleared : EvictsFixed l.point l.operands l.fn.inst_regs (tables_of l.fn.self) l.k l.inst_regs (tables_of l.self);
  awaited : l.inst_regs.awaited ≡ l.fn.inst_regs.awaited;
  later : AllAtOrAfter l.point l.self.edits;
  long : length l.self.places.vreg_allocs ≡ length l.fn.self.places.vreg_allocs;
  machine : SameMachine (tables_of l.fn.self) (tables_of l.self);
}
