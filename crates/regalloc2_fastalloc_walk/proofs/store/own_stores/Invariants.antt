use Rattle.std.proofs.Common.{◌≡◌, map, take}
use Rattle.regalloc2_fastalloc_walk.specs.BranchStores.{own_store}
use Rattle.regalloc2_fastalloc_walk.proofs.store.own_stores.Given as goal

abbrev pub invariant-loop-index : goal.invariant-loop-index
invariant-loop-index g l = l.stores.items ≡ map (own_store l.operands) (take l.index-index l.stored)
