use Rattle.std.proofs.Common.{arith, length}
use Rattle.std.specs.Prelude.{min}
use Rattle.regalloc2_checker_sets.proofs.Passed.{more-then, are-passed}
use Rattle.regalloc2_checker_sets.proofs.passed_sets.passed_numbers.Goals as goal

pub loop-position-preserved : goal.loop-position-preserved
loop-position-preserved g c =
    let low = c.requires c.loop-position.position (omega (arith, c.loop-position-test.true, c.len-position-end.ensures)) in
    record {
      more = more-then c.args.sets.now c.loop-position.sets c.passed_set.new.sets c.loop-position.invariant.more c.in_ok-number.ensures.more;
      noted = c.in_ok-number.ensures.noted;
      passed = are-passed c.args.params.now c.args.arguments.now (min (length c.args.params.now) (length c.args.arguments.now)) c.args.sets.now
          c.args.entries.now c.loop-position.sets c.passed_set.new.sets c.loop-position.numbers.items c.push.new.self.items c.loop-position.position
          c.get-set.result c.in_ok-number.number c.loop-position.invariant.more c.in_ok-number.ensures.more c.in_ok-push.ensures.items c.get-set.ensures low
          c.in_ok-number.ensures.found c.loop-position.invariant.passed;
    }
