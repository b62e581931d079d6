use Rattle.std.proofs.Common.{◌≡◌, length}
use Rattle.regalloc2_names.specs.Place.{after}
use Rattle.regalloc2_fastalloc_state.specs.StateParts.{AllAtOrAfter}
use Rattle.regalloc2_fastalloc_proofs.specs.InstSteps.{SameMachine}
use Rattle.regalloc2_fastalloc_walk.specs.StateView.{tables_of}
use Rattle.regalloc2_fastalloc_walk.proofs.OperandsProcessed.{AreProcessed}
use Rattle.regalloc2_fastalloc_walk.proofs.state.State.process_masked_at.Given as goal

-- the operands before an index are processed, and the selected operands from the index on are left
abbrev pub invariant-loop-k : goal.invariant-loop-k
invariant-loop-k g l = record {
  done : AreProcessed l.cx.inst l.cx.ends_block l.fn.pos l.cx.operands.now l.fn.allocs l.fn.inst_regs (tables_of l.fn.self) l.k-iterator l.allocs
      l.inst_regs (tables_of l.self);
  later : AllAtOrAfter (after l.cx.inst) l.self.edits;
  long : length l.self.places.vreg_allocs ≡ length l.fn.self.places.vreg_allocs;
  machine : SameMachine (tables_of l.fn.self) (tables_of l.self);
}
