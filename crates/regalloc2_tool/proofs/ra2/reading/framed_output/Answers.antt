use Rattle.std.proofs.Common.{◌≡◌, true, false, refl}
use Rattle.regalloc2_tool.proofs.Ra2Lemmas.TextReadings.{output_fault}
use Rattle.regalloc2_tool.proofs.ra2.reading.framed_output.Goals as goal

pub returns-in-Err-clause-err : goal.returns-in-Err-clause-err
returns-in-Err-clause-err g c = output_fault c.args.stored.now c.in-Err.fault c.in-Err.ensures.bits c.in-Err.ensures.memory c.in-Err.ensures.faults

pub returns-then-not-is_framed-clause-err : goal.returns-then-not-is_framed-clause-err
returns-then-not-is_framed-clause-err g c =
    (c.in-Ok.ensures.names, λ framed. let e : false ≡ true = c.if-not-is_framed.ensures.1 framed in absurd cc)

pub returns-clause-ok : goal.returns-clause-ok
returns-clause-ok g c = (c.in-Ok.ensures.names, c.in-Ok.ensures.output, c.if-not-is_framed.ensures.0 refl)
