use Rattle.std.proofs.Common.{◌≡◌, ◌++◌, length}
use Rattle.regalloc2_fastalloc_proofs.specs.InstSteps.{SameMachine, EvictsEach}
use Rattle.regalloc2_fastalloc_walk.specs.StateView.{tables_of}
use Rattle.regalloc2_fastalloc_state.specs.StateParts.{AllAtOrAfter}
use Rattle.regalloc2_fastalloc_walk.proofs.state.State.evict_clobbers.Given as goal

abbrev pub invariant-loop-preg : goal.invariant-loop-preg
invariant-loop-preg g l = record {
  left : l.yielded ++ l.preg-iterator ≡ l.initial.preg-iterator;
  cleared : EvictsEach l.point l.yielded l.fn.inst_regs (tables_of l.fn.self) l.inst_regs (tables_of l.self);
  awaited : l.inst_regs.awaited ≡ l.fn.inst_regs.awaited;
  later : AllAtOrAfter l.point l.self.edits;
  long : length l.self.places.vreg_allocs ≡ length l.fn.self.places.vreg_allocs;
  machine : SameMachine (tables_of l.fn.self) (tables_of l.self);
}
