use Rattle.std.proofs.Common.{◌≡◌, List, length}
use Rattle.regalloc2_fastalloc_proofs.specs.BranchSteps.{AreOf, ClassMove, GathersEdgeMoves}
use Rattle.regalloc2_fastalloc_proofs.specs.InstSteps.{SameMachine}
use Rattle.regalloc2_fastalloc_walk.specs.OwnDefs.{IsOwnBy}
use Rattle.regalloc2_fastalloc_walk.specs.StateView.{tables_of}
use Rattle.regalloc2_fastalloc_state.specs.StateParts.{AllAtOrAfter}
use Rattle.regalloc2_fastalloc_walk.proofs.state.State.gather_edge.Given as goal

abbrev pub invariant-loop-j : goal.invariant-loop-j
invariant-loop-j g l = record {
  done : (given : List ClassMove) → AreOf l.fn.moves.int l.fn.moves.float l.fn.moves.vector given → (more : List ClassMove)
      × AreOf l.moves.int l.moves.float l.moves.vector more
      × GathersEdgeMoves (IsOwnBy l.own.defs.now l.own.branch) l.point l.params l.arguments l.fn.inst_regs (tables_of l.fn.self) given l.j l.inst_regs
      (tables_of l.self) more;
  later : AllAtOrAfter l.point l.self.edits;
  long : length l.self.places.vreg_allocs ≡ length l.fn.self.places.vreg_allocs;
  machine : SameMachine (tables_of l.fn.self) (tables_of l.self);
}
