use Rattle.std.proofs.Common.{arith}
use Rattle.std.proofs.lemmas.Grind.{common_steps}
use Rattle.codegen_operation.proofs.line.call_clobbers.Goals as goal

pub returns : goal.returns
returns c = λ r. grind (arith, common_steps)
