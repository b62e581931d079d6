use Rattle.std.proofs.lemmas.Result.{IfOk-from_err}
use Rattle.codegen.proofs.run.module.Frames.new.Goals as goal

pub returns-in_err-to_vec : goal.returns-in_err-to_vec
returns-in_err-to_vec c = IfOk-from_err c.from_residual.result _ c.from_residual.ensures.0
