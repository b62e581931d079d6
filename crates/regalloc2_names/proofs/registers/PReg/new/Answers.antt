use Rattle.std.proofs.Common.{arith}
use Rattle.regalloc2_names.proofs.Bits.{packed_register, register_word}
use Rattle.regalloc2_names.proofs.registers.PReg.new.Goals as goal

pub returns : goal.returns
returns c = rw (register_word c.args.hw_enc c.args.class (omega arith)) (packed_register c.args.hw_enc c.args.class (omega arith))
