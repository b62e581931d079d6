use Rattle.std.proofs.lemmas.Result.{IfOk-from_err}
use Rattle.codegen.proofs.run.module.Frames.give.Goals as goal

pub returns-in_err-put : goal.returns-in_err-put
returns-in_err-put c = IfOk-from_err c.from_residual.result _ c.from_residual.ensures.0
