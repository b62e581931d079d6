use Rattle.std.proofs.Common.{length, ◌-◌}
use Rattle.regalloc2_text.proofs.writer.registers.write_registers.Given as goal

abbrev pub decreases-loop-first : goal.decreases-loop-first
decreases-loop-first g l = length l.registers - l.first
