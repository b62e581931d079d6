use Rattle.std.proofs.Common.{arith}
use Rattle.regalloc2_checker.proofs.tables.count_below.Goals as goal

pub returns-then-chunk-whole : goal.returns-then-chunk-whole
returns-then-chunk-whole c = record {
  few = omega arith;
  below = λ some. omega (arith, c.if-chunk-whole.true);
  rest = λ less. absurd (omega (arith, less));
}

pub returns-then-chunk-whole-2 : goal.returns-then-chunk-whole-2
returns-then-chunk-whole-2 c = record {
  few = omega arith;
  below = λ some. omega (arith, c.if-chunk-whole-2.true);
  rest = λ less. omega (arith, c.if-chunk-whole-2.true);
}

pub returns-else-chunk-whole-2 : goal.returns-else-chunk-whole-2
returns-else-chunk-whole-2 c = record {
  few = omega arith;
  below = λ some. absurd (omega (arith, some));
  rest = λ less. omega (arith, c.if-chunk-whole.false, c.if-chunk-whole-2.false);
}
