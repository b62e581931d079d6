use Rattle.std.proofs.Common.{◌≡◌}
use Rattle.regalloc2_tests.proofs.units.parts.listed.resolved.Given as goal

abbrev pub invariant-loop-from : goal.invariant-loop-from
invariant-loop-from g l = l.moves ≡ l.list.items
