use Rattle.std.proofs.Common.{rules}
use Rattle.regalloc2_fastalloc.proofs.run_into_ctx.Goals as goal

pub returns-in_err-ctx-clause-kept : goal.returns-in_err-ctx-clause-kept
returns-in_err-ctx-clause-kept g c = search rules
