use Rattle.std.proofs.Common.{◌≡◌, length}
use Rattle.regalloc2_fastalloc_proofs.specs.BlockStart.{ReloadsParams}
use Rattle.regalloc2_fastalloc_proofs.specs.InstSteps.{SameMachine}
use Rattle.regalloc2_fastalloc_walk.specs.StateView.{tables_of}
use Rattle.regalloc2_fastalloc_state.specs.StateParts.{AllAtOrAfter}
use Rattle.regalloc2_fastalloc_walk.proofs.state.State.reload_params.Given as goal

abbrev pub invariant-loop-param : goal.invariant-loop-param
invariant-loop-param g l = record {
  done : ReloadsParams l.point l.params l.fn.inst_regs (tables_of l.fn.self) l.param-index l.inst_regs (tables_of l.self);
  later : AllAtOrAfter l.point l.self.edits;
  long : length l.self.places.vreg_allocs ≡ length l.fn.self.places.vreg_allocs;
  machine : SameMachine (tables_of l.fn.self) (tables_of l.self);
}
