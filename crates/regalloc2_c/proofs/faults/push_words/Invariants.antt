use Rattle.std.proofs.Common.{◌≡◌, ◌++◌, take}
use Rattle.regalloc2_c.proofs.faults.push_words.Given as goal

abbrev pub invariant-loop-k : goal.invariant-loop-k
invariant-loop-k l = l.to.items ≡ l.fn.to.items ++ take l.k l.words
