use Rattle.std.proofs.Common.{◌≤◌, length, take}
use Rattle.std.specs.Prelude.{All}
use Rattle.regalloc2_function.specs.FunctionValue.{block_at}
use Rattle.regalloc2_function.proofs.blocks.first_fork.Given as goal

-- the blocks so far have at most one successor
abbrev pub invariant-loop-pred : goal.invariant-loop-pred
invariant-loop-pred g l = All (λ p. length (block_at (g.F.Function.function l.f) p).succs ≤ 1) (take l.pred-index l.preds)
