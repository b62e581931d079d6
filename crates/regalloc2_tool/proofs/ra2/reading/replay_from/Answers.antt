use Rattle.std.proofs.lemmas.Result.{IfErr-weaker, IfOk-weaker}
use Rattle.regalloc2_tool.proofs.ra2.reading.replay_from.Goals as goal

pub returns-clause-ok : goal.returns-clause-ok
returns-clause-ok g c = IfOk-weaker c.framed_pair.result _ _ (λ x h. h (g.R.Read.remaining c.args.input) c.in-Some.ensures) c.framed_pair.ensures.ok

pub returns-clause-err : goal.returns-clause-err
returns-clause-err g c = IfErr-weaker c.framed_pair.result _ _ (λ x h. h (g.R.Read.remaining c.args.input) c.in-Some.ensures) c.framed_pair.ensures.err
