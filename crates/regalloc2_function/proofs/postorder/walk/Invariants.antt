use Rattle.std.proofs.Common.{ℕ, List, length}
use Rattle.regalloc2_function.specs.Listed.{AreBlocks, AreSuccessors}
use Rattle.regalloc2_function.proofs.DepthFirstWalk.{Walked, work}
use Rattle.regalloc2_function.proofs.postorder.walk.Given as goal

-- the walk so far, whatever successors the closure returns
abbrev pub invariant-loop-frame : goal.invariant-loop-frame
invariant-loop-frame g l = (succs : ℕ → List ℕ) → AreSuccessors (goal.F-post g l.succ_blocks) (length l.fn.visited) succs →
    AreBlocks succs (length l.fn.visited) l.fn.entry → Walked succs (length l.fn.visited) l.fn.entry l.visited l.stack.items l.out.items

abbrev pub decreases-loop-frame : goal.decreases-loop-frame
decreases-loop-frame g l = work l.visited l.stack.items
