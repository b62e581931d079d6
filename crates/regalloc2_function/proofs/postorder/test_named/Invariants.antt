use Rattle.std.proofs.Common.{ℕ, ◌<◌, List}
use Rattle.std.specs.Prelude.{All}
use Rattle.regalloc2_function.specs.Listed.{AreSuccessors}
use Rattle.regalloc2_function.proofs.NamedBlocks.{named_to}
use Rattle.regalloc2_function.proofs.postorder.test_named.Given as goal

-- the entry and the successors so far are blocks, whatever the closure returns
abbrev pub invariant-loop-b : goal.invariant-loop-b
invariant-loop-b g l = (succs : ℕ → List ℕ) → AreSuccessors (goal.F-post g l.succ_blocks) l.num_blocks succs →
    All (λ s. s < l.num_blocks) (named_to succs l.b l.fn.entry)
