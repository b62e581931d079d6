use Rattle.std.proofs.Common.{rules}
use Rattle.codegen_emit.proofs.emit.emit_compute.Goals as goal

pub returns : goal.returns
returns c = search rules
