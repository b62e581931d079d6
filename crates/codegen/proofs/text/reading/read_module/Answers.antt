use Rattle.codegen.proofs.text.reading.read_module.Goals as goal

pub returns-in-Err : goal.returns-in-Err
returns-in-Err c = c.in-Err.ensures

pub returns-in-Err-read_lines : goal.returns-in-Err-read_lines
returns-in-Err-read_lines c = c.in-Err-read_lines.ensures.on_line
