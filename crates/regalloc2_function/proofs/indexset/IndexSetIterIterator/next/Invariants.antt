use Rattle.std.proofs.Common.{◌≡◌, ◌<◌, ◌+◌, ◌^◌, length, ◌++◌}
use Rattle.std.specs.Prelude.{map}
use Rattle.regalloc2_function.specs.Numbers.{bits_of, numbers_of_set}
use Rattle.regalloc2_function.proofs.indexset.IndexSetIterIterator.next.Given as goal

abbrev pub invariant-loop-self : goal.invariant-loop-self
invariant-loop-self l = record {
  base : l.self-inside.base < 2 ^ 38;
  left : map (λ b. l.self-inside.base + b) (bits_of l.self-inside.bits) ++ numbers_of_set l.self-inside.words ≡ l.fn.self;
}

abbrev pub decreases-loop-self : goal.decreases-loop-self
decreases-loop-self l = length l.self-inside.words
