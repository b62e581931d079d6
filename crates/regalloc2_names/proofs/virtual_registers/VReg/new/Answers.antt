use Rattle.std.proofs.Common.{arith}
use Rattle.regalloc2_names.proofs.Bits.{packed_vreg, vreg_word}
use Rattle.regalloc2_names.proofs.virtual_registers.VReg.new.Goals as goal

pub returns : goal.returns
returns c = rw (vreg_word c.args.virt_reg c.args.class (omega arith)) (packed_vreg c.args.virt_reg c.args.class (omega arith))
