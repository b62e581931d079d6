use Rattle.std.proofs.Common.{◌≢◌, ℕ, ◌<◌}
use Rattle.regalloc2_parts.specs.Callmoves.Frame.{free_at}
use Rattle.regalloc2_parts.proofs.callmoves.fault.is_free.Given as goal

abbrev pub invariant-loop-at : goal.invariant-loop-at
invariant-loop-at g l = (k : ℕ) → k < l.at → free_at l.frame k ≢ l.fn.preg
