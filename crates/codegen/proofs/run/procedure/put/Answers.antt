use Rattle.std.proofs.lemmas.Result.{IfOk-from_err}
use Rattle.codegen.proofs.run.procedure.put.Goals as goal

pub returns-in_err-insert : goal.returns-in_err-insert
returns-in_err-insert c = IfOk-from_err c.from_residual.result _ c.from_residual.ensures.0
