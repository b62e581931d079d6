use Rattle.std.proofs.Common.{◌≡◌, length}
use Rattle.regalloc2_fastalloc_state.specs.StateParts.{AllAtOrAfter}
use Rattle.regalloc2_fastalloc_proofs.specs.InstSteps.{SameMachine}
use Rattle.regalloc2_fastalloc_walk.specs.StateView.{tables_of}
use Rattle.regalloc2_fastalloc_walk.proofs.UsesInTurn.{AreMoved}
use Rattle.regalloc2_fastalloc_walk.proofs.state.State.move_masked_uses.Given as goal

-- the uses before an index are moved, and the uses from the index on are left
abbrev pub invariant-loop-k : goal.invariant-loop-k
invariant-loop-k g l = record {
  done : AreMoved l.point l.operands l.allocs l.fn.inst_regs (tables_of l.fn.self) l.k-iterator l.inst_regs (tables_of l.self);
  later : AllAtOrAfter l.point l.self.edits;
  long : length l.self.places.vreg_allocs ≡ length l.fn.self.places.vreg_allocs;
  machine : SameMachine (tables_of l.fn.self) (tables_of l.self);
}
