use Rattle.std.proofs.lemmas.Result.{IfOk-from_err}
use Rattle.std.proofs.Common.{ap, ◌∙◌}
use Rattle.codegen.specs.Run.States.{frames_of}
use Rattle.codegen.proofs.RunLemmas.Modules.{frames_pushed}
use Rattle.codegen.proofs.run.module.push.Goals as goal

pub returns : goal.returns
returns c = ap frames_of c.in_ok-push.ensures.items ∙ frames_pushed c.args.frames.now.items c.args.frame

pub returns-in_err-push : goal.returns-in_err-push
returns-in_err-push c = IfOk-from_err c.from_residual.result _ c.from_residual.ensures.0
