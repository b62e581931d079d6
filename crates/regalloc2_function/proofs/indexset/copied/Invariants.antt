use Rattle.std.proofs.Common.{ℕ, ◌≡◌, ◌++◌}
use Rattle.regalloc2_function.specs.Numbers.{word_of}
use Rattle.regalloc2_function.proofs.indexset.copied.Given as goal

abbrev pub invariant-loop-key : goal.invariant-loop-key
invariant-loop-key g l = record {
  all : l.many.entries ≡ l.yielded ++ l.key-iterator;
  words : (k : ℕ) → word_of l.copy.entries k ≡ word_of l.yielded k;
}
