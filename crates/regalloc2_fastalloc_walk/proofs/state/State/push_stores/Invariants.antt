use Rattle.std.proofs.Common.{◌≤◌, length, drop}
use Rattle.regalloc2_fastalloc_state.specs.StateParts.{AllAtOrAfter}
use Rattle.regalloc2_fastalloc_walk.specs.BranchStores.{PushesStores}
use Rattle.regalloc2_fastalloc_walk.specs.StateView.{tables_of}
use Rattle.regalloc2_fastalloc_walk.proofs.state.State.push_stores.Given as goal

-- the stores of the kind from an index on are pushed
abbrev pub invariant-loop-k : goal.invariant-loop-k
invariant-loop-k g l = record {
  within : l.k ≤ length l.moves;
  pushes : PushesStores l.point l.from_stack (drop l.k l.moves) (tables_of l.fn.self) (tables_of l.self);
  later : AllAtOrAfter l.point l.self.edits;
}

abbrev pub decreases-loop-k : goal.decreases-loop-k
decreases-loop-k g l = l.k
