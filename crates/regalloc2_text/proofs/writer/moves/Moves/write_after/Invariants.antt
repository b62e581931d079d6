use Rattle.std.proofs.Common.{length}
use Rattle.regalloc2_text.proofs.writer.moves.Moves.write_after.Given as goal

abbrev pub decreases-loop-point : goal.decreases-loop-point
decreases-loop-point g l = length l.self.rest.now
