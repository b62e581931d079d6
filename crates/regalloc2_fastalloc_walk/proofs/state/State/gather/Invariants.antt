use Rattle.std.proofs.Common.{◌≡◌, List, length}
use Rattle.regalloc2_names.specs.Place.{before}
use Rattle.regalloc2_fastalloc_proofs.specs.BranchSteps.{AreOf, ClassMove, GathersMoves}
use Rattle.regalloc2_fastalloc_proofs.specs.InstSteps.{SameMachine}
use Rattle.regalloc2_fastalloc_walk.specs.StateView.{tables_of}
use Rattle.regalloc2_fastalloc_state.specs.StateParts.{AllAtOrAfter}
use Rattle.regalloc2_fastalloc_walk.proofs.state.State.gather.Given as goal

abbrev pub invariant-loop-k : goal.invariant-loop-k
invariant-loop-k g l = record {
  done : (given : List ClassMove) × AreOf l.moves.int l.moves.float l.moves.vector given
      × GathersMoves (g.F.Function.function l.cx.f.now) l.block (before l.inst) l.fn.inst_regs (tables_of l.fn.self) l.k l.inst_regs (tables_of l.self) given;
  later : AllAtOrAfter (before l.inst) l.self.edits;
  long : length l.self.places.vreg_allocs ≡ length l.fn.self.places.vreg_allocs;
  machine : SameMachine (tables_of l.fn.self) (tables_of l.self);
}
