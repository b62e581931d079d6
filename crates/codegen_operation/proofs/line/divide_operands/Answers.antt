use Rattle.std.proofs.Common.{rules}
use Rattle.codegen_operation.proofs.line.divide_operands.Goals as goal

pub returns : goal.returns
returns c = search rules
