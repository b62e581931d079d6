use Rattle.regalloc2_checker_sets.proofs.Written.{AreStoredAnew}
use Rattle.regalloc2_checker_sets.proofs.entries.Entries.without.Given as goal

-- the copies so far are stored anew
abbrev pub invariant-loop-copy : goal.invariant-loop-copy
invariant-loop-copy g l = AreStoredAnew l.marks l.copy l.fn.self l.self l.to
