use Rattle.std.specs.Prelude.{nat_eq}
use Rattle.std.specs.HashMap.{get}
use Rattle.regalloc2_parts.proofs.CallmovesLemmas.Tables.{IsTable}
use Rattle.regalloc2_parts.proofs.callmoves.fault.find_by_table.Given as goal

abbrev pub invariant-loop-at : goal.invariant-loop-at
invariant-loop-at g l = IsTable l.moves l.at (get nat_eq l.sources)
