use Rattle.std.proofs.Common.{rules}
use Rattle.codegen_emit.proofs.emit.address_count.Goals as goal

pub returns : goal.returns
returns c = search rules
