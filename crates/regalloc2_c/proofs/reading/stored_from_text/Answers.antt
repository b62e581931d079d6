use Rattle.regalloc2_c.proofs.Lines.{text_unread}
use Rattle.regalloc2_c.proofs.reading.stored_from_text.Goals as goal

pub returns-in-Err-clause-err : goal.returns-in-Err-clause-err
returns-in-Err-clause-err c =
    text_unread c.args.bytes.now c.in-Ok.text.now c.in-Ok.ensures.cases.0 c.in-Err.error c.in-Err.ensures c.failure_of_text.result
    c.failure_of_text.ensures
