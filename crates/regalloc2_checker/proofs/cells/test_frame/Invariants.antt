use Rattle.std.proofs.Common.{ℕ, take}
use Rattle.std.specs.Prelude.{All}
use Rattle.regalloc2_checker.specs.Cells.{IsInFrame}
use Rattle.regalloc2_checker.proofs.cells.test_frame.Given as goal

-- the slots so far are within the frame
abbrev pub invariant-loop-k : goal.invariant-loop-k
invariant-loop-k l = All (λ (s : ℕ × ℕ). IsInFrame l.by_last l.count s.0 s.1) (take l.k l.named)
