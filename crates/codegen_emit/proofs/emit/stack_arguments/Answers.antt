use Rattle.std.proofs.Common.{rules}
use Rattle.codegen_emit.proofs.emit.stack_arguments.Goals as goal

pub returns-in-Call : goal.returns-in-Call
returns-in-Call c = search rules
