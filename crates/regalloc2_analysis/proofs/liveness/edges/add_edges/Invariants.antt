use Rattle.std.proofs.Common.{ℕ, ◌≡◌, take, nat_eq}
use Rattle.std.specs.Prelude.{◌&&◌, ◌||◌}
use Rattle.regalloc2_analysis.specs.Liveness.Edges.{blocks_of, names_block}
use Rattle.regalloc2_analysis.proofs.liveness.edges.add_edges.Given as goal

-- the block is listed for the positions so far
abbrev pub invariant-loop-succ : goal.invariant-loop-succ
invariant-loop-succ g l = (n p : ℕ) → names_block (blocks_of l.edges n)
    p ≡ (names_block (blocks_of l.fn.edges n) p || (nat_eq l.block p && names_block (take l.succ-index l.succs) n))
