use Rattle.std.proofs.Common.{◌≡◌, ◌≤◌, length}
use Rattle.regalloc2_checker.specs.ListingCopied.{AreBeforePoint}
use Rattle.regalloc2_checker.proofs.output.first_from.Given as goal

-- the first k edits are before the point
abbrev pub invariant-loop-k : goal.invariant-loop-k
invariant-loop-k l = record { end : l.k-end ≡ length l.edits; low : l.from ≤ l.k; high : l.k ≤ length l.edits; passed : AreBeforePoint l.edits l.k l.point }
