use Rattle.regalloc2_parts.specs.AtOnce.{ends_of}
use Rattle.regalloc2_tests.proofs.Rising.{RisesTo}
use Rattle.regalloc2_tests.proofs.units.parts.listed.list_rises.Given as goal

abbrev pub invariant-loop-at : goal.invariant-loop-at
invariant-loop-at l = RisesTo (ends_of l.list) l.at
