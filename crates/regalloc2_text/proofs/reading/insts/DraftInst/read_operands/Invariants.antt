use Rattle.std.proofs.Common.{◌≤◌}
use Rattle.regalloc2_text.specs.Cursor.Cursor.{tokens_left}
use Rattle.regalloc2_text.proofs.reading.insts.DraftInst.read_operands.Given as goal

abbrev pub invariant-loop-self : goal.invariant-loop-self
invariant-loop-self g l = tokens_left l.cursor ≤ tokens_left l.fn.cursor

abbrev pub decreases-loop-self : goal.decreases-loop-self
decreases-loop-self g l = tokens_left l.cursor
