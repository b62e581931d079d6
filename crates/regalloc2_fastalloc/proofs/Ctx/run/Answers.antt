use Rattle.std.proofs.Common.{rules}
use Rattle.regalloc2_fastalloc.proofs.Ctx.run.Goals as goal

pub returns-in_err-run_into_ctx : goal.returns-in_err-run_into_ctx
returns-in_err-run_into_ctx g c = search rules
