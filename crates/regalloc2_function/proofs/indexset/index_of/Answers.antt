use Rattle.std.proofs.Common.{arith}
use Rattle.regalloc2_function.proofs.NumberIndexes.{Lacks-from_each}
use Rattle.regalloc2_function.proofs.indexset.index_of.Goals as goal

pub returns-clause-none : goal.returns-clause-none
returns-clause-none c = Lacks-from_each c.args.key c.args.words.now (λ k less. c.loop-index.invariant k (omega arith))
