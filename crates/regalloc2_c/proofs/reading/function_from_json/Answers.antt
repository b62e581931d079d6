use Rattle.std.proofs.Common.{inr}
use Rattle.regalloc2_c.proofs.Verdicts.{if_ok, if_err}
use Rattle.regalloc2_c.proofs.reading.function_from_json.Goals as goal

pub returns-in-Ok-clause-ok : goal.returns-in-Ok-clause-ok
returns-in-Ok-clause-ok c = if_ok (λ f h. (c.in-Ok.stored, c.in-Ok.ensures.ok, h)) c.function_from.result c.function_from.ensures.ok

pub returns-in-Ok-clause-err : goal.returns-in-Ok-clause-err
returns-in-Ok-clause-err c = if_err (λ e h. inr (c.in-Ok.stored, c.in-Ok.ensures.ok, h)) c.function_from.result c.function_from.ensures.err
