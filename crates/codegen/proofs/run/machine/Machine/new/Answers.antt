use Rattle.std.proofs.lemmas.Result.{IfOk-from_err}
use Rattle.codegen.proofs.run.machine.Machine.new.Goals as goal

pub returns-in_err-zeros : goal.returns-in_err-zeros
returns-in_err-zeros c = record {
  state = IfOk-from_err c.from_residual.result _ c.from_residual.ensures.0;
  frame = IfOk-from_err c.from_residual.result _ c.from_residual.ensures.0;
}
