use Rattle.regalloc2.specs.Views.{machine_of}
use Rattle.regalloc2_c.specs.Outcome.{AreOutputWords}
use Rattle.regalloc2_c.proofs.Verdicts.{accepted_for, failure_for, if_err, on_ok, unread}
use Rattle.regalloc2_c.proofs.judging.judged.Goals as goal

pub returns-in-Err-clause-err : goal.returns-in-Err-clause-err
returns-in-Err-clause-err g c =
    unread (AreOutputWords c.args.words.now) (g.F.Function.function c.args.f.now) (machine_of c.args.env.now) c.in-Err.failure c.in-Err.ensures.err

pub returns-clause-ok : goal.returns-clause-ok
returns-clause-ok g c =
    on_ok (accepted_for (AreOutputWords c.args.words.now) c.in-Ok.numbers c.in-Ok.ensures.ok (g.F.Function.function c.args.f.now) (machine_of c.args.env.now))
    c.judge_numbers.result c.judge_numbers.ensures.ok

pub returns-clause-err : goal.returns-clause-err
returns-clause-err g c =
    if_err (failure_for (AreOutputWords c.args.words.now) c.in-Ok.numbers c.in-Ok.ensures.ok (g.F.Function.function c.args.f.now) (machine_of c.args.env.now))
    c.judge_numbers.result c.judge_numbers.ensures.err
