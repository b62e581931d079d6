use Rattle.std.proofs.lemmas.Result.{err_from_is_err_and}
use Rattle.regalloc2_text.proofs.reading.read.Goals as goal

pub returns-in_err-line : goal.returns-in_err-line
returns-in_err-line g c =
    let p = err_from_is_err_and c.from_residual.result c.from_residual.ensures.1 in rw (p.1, p.2) c.in_err-line.ensures.on_line

pub returns : goal.returns
returns g c = c.on_line.ensures _ _ c.in_ok-line.ensures.from c.in_ok-line.ensures.until
