use Rattle.std.proofs.Common.{◌≡◌}
use Rattle.regalloc2_fastalloc_proofs.specs.InstSteps.{SameMachine}
use Rattle.regalloc2_fastalloc_walk.specs.BranchStores.{FindsStores}
use Rattle.regalloc2_fastalloc_walk.specs.StateView.{tables_of}
use Rattle.regalloc2_fastalloc_walk.proofs.state.State.store_moves.Given as goal

abbrev pub invariant-loop-store : goal.invariant-loop-store
invariant-loop-store g l = record {
  finds : FindsStores l.operands l.stores l.fn.self.slots l.store-index l.moves.items l.self.slots;
  tables : tables_of l.self ≡ record (tables_of l.fn.self) { slots = l.self.slots };
  machine : SameMachine (tables_of l.fn.self) (tables_of l.self);
}
