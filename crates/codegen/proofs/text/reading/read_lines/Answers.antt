use Rattle.std.proofs.Common.{arith}
use Rattle.codegen.proofs.text.reading.read_lines.Goals as goal

pub returns-in-Err-clause-on_line : goal.returns-in-Err-clause-on_line
returns-in-Err-clause-on_line c = let i = c.lines.invariant in c.on_line.ensures _ _ (omega (arith, i.1, i.2)) (omega (arith, i.1, i.2))

pub returns-in-Err-read_line-clause-on_line : goal.returns-in-Err-read_line-clause-on_line
returns-in-Err-read_line-clause-on_line c =
    let i = c.lines.invariant in
    c.on_line-in-Err-read_line.ensures _ _ (omega (arith, i.1, i.2)) (omega (arith, i.1, i.2))
