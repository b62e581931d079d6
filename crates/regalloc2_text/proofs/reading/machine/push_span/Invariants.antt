use Rattle.std.proofs.Common.{◌≤◌}
use Rattle.regalloc2_text.specs.Cursor.Cursor.{tokens_left}
use Rattle.regalloc2_text.proofs.reading.machine.push_span.Given as goal

abbrev pub invariant-loop-index : goal.invariant-loop-index
invariant-loop-index g l = tokens_left l.cursor ≤ tokens_left l.fn.cursor
