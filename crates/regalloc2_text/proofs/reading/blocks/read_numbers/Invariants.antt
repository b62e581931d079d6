use Rattle.std.proofs.Common.{◌≤◌}
use Rattle.regalloc2_text.specs.Cursor.Cursor.{tokens_left}
use Rattle.regalloc2_text.proofs.reading.blocks.read_numbers.Given as goal

abbrev pub invariant-loop-number : goal.invariant-loop-number
invariant-loop-number g l = tokens_left l.cursor ≤ tokens_left l.fn.cursor

abbrev pub decreases-loop-number : goal.decreases-loop-number
decreases-loop-number g l = tokens_left l.cursor
