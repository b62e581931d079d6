use Rattle.regalloc2_serialize.specs.Flat.Columns.Value.{AreNumbered}
use Rattle.regalloc2_serialize.proofs.flat.columns.typed.numbered_sets.Given as goal

abbrev pub invariant-loop-k : goal.invariant-loop-k
invariant-loop-k g l = AreNumbered l.words l.k l.sets.items
