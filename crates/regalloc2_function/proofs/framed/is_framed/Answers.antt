use Rattle.std.proofs.Common.{rules, tests}
use Rattle.regalloc2_function.proofs.framed.is_framed.Goals as goal

pub test_ends-requires : goal.test_ends-requires
test_ends-requires g c = c.test_blocks.ensures.ok.0 (search (rules, tests))

pub arguments_counted-requires-clause-follow : goal.arguments_counted-requires-clause-follow
arguments_counted-requires-clause-follow g c = c.test_blocks.ensures.ok.0 (search (rules, tests))

pub returns-then-is_ok : goal.returns-then-is_ok
returns-then-is_ok g c = (
  λ counted. record {
    successors = c.successors_are_blocks.ensures.0 c.if-not-successors_are_blocks.false;
    follow = c.test_blocks.ensures.ok.0 (search (rules, tests));
    end = c.test_ends.ensures.ok.0 (search (rules, tests));
    counted = c.arguments_counted.ensures.0 counted;
  },
  λ framed. c.arguments_counted.ensures.1 framed.counted,
)
