use Rattle.std.proofs.Common.{length, ◌-◌, ◌≤◌, ◌<◌}
use Rattle.regalloc2_text.proofs.writer.registers.last_neighbour.Given as goal

abbrev pub invariant-loop-last : goal.invariant-loop-last
invariant-loop-last l = (l.first ≤ l.last) × (l.last < length l.registers)

abbrev pub decreases-loop-last : goal.decreases-loop-last
decreases-loop-last l = length l.registers - l.last
