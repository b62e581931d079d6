use Rattle.std.proofs.Common.{arith}
use Rattle.regalloc2_checker_sets.proofs.versions.first_difference.Goals as goal

pub loop-chunk-init : goal.loop-chunk-init
loop-chunk-init c = λ i low high. absurd (omega (arith, low, high))

pub returns : goal.returns
returns c = λ i low high. c.loop-chunk.invariant i low (omega (arith, high, c.loop-chunk-test.false, c.requires.long))
