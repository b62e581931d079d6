use Rattle.regalloc2_fastalloc_walk.specs.BranchStores.{ListsParams}
use Rattle.regalloc2_fastalloc_walk.proofs.state.State.list_params.Given as goal

abbrev pub invariant-loop-j : goal.invariant-loop-j
invariant-loop-j g l = record {
  lists : ListsParams l.defs l.edge.branch l.self.slots l.params l.arguments l.fn.stores.items l.j l.stores.items;
}
