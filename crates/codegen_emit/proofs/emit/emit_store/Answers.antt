use Rattle.std.proofs.Common.{rules, append_assoc}
use Rattle.codegen_emit.proofs.emit.emit_store.Goals as goal

pub returns : goal.returns
returns c = search (rules, append_assoc)
