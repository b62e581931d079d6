use Rattle.std.proofs.Common.{◌≡◌, ◌≤◌, ◌++◌, length}
use Rattle.std.specs.Prelude.{drop}
use Rattle.regalloc2_fastalloc_state.specs.StateParts.{AllAtOrAfter}
use Rattle.regalloc2_fastalloc_state.specs.ScratchPool.{pushed}
use Rattle.regalloc2_fastalloc_state.proofs.edits.Edits.push_all.Given as goal

abbrev pub invariant-loop-k : goal.invariant-loop-k
invariant-loop-k g l = record {
  within : l.k ≤ length l.moves;
  pushed_so : l.self ≡ l.fn.self ++ pushed l.fn.point (drop l.k l.moves);
  later : AllAtOrAfter l.fn.point l.self;
}

abbrev pub decreases-loop-k : goal.decreases-loop-k
decreases-loop-k g l = l.k
