use Rattle.std.proofs.lemmas.Result.{IfOk-from_err}
use Rattle.codegen.proofs.run.stack.passed.Goals as goal

pub returns-in_err-arguments : goal.returns-in_err-arguments
returns-in_err-arguments c = record { items = IfOk-from_err c.from_residual.result _ c.from_residual.ensures.0 }

pub returns-in_err-extend_from_slice : goal.returns-in_err-extend_from_slice
returns-in_err-extend_from_slice c = record { items = IfOk-from_err c.from_residual-in_err-extend_from_slice.result _ c.from_residual-in_err-extend_from_slice.ensures.0 }
