use Rattle.std.proofs.Common.{◌≤◌}
use Rattle.regalloc2_text.specs.Cursor.Cursor.{tokens_left}
use Rattle.regalloc2_text.proofs.reading.machine.read_span_list.Given as goal

abbrev pub invariant-loop-class : goal.invariant-loop-class
invariant-loop-class g l = tokens_left l.cursor ≤ tokens_left l.fn.cursor

abbrev pub decreases-loop-class : goal.decreases-loop-class
decreases-loop-class g l = tokens_left l.cursor
