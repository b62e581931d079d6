use Rattle.std.proofs.lemmas.Result.{IfOk-from_err}
use Rattle.codegen.proofs.run.module.Frames.step_within.Goals as goal

pub returns-in_err-standing : goal.returns-in_err-standing
returns-in_err-standing c = IfOk-from_err c.from_residual.result _ c.from_residual.ensures.0
