use Rattle.std.proofs.Common.{inr, refl}
use Rattle.regalloc2_c.proofs.judging.output_from.Goals as goal

pub returns-in-Err-Bits-clause-err : goal.returns-in-Err-Bits-clause-err
returns-in-Err-Bits-clause-err c = inr (refl, c.in-Err-Bits.ensures.bits c.in-Err-Bits.field-0-is)
