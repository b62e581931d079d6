use Rattle.std.proofs.Common.{arith}
use Rattle.codegen.proofs.text.functions.Functions.of.Goals as goal

pub returns-in-Err : goal.returns-in-Err
returns-in-Err c = let i = c.lines.invariant in c.on_line.ensures _ _ (omega (arith, i.1, i.2)) (omega (arith, i.1, i.2))
