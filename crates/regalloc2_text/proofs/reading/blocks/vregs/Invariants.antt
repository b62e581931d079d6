use Rattle.std.proofs.Common.{◌≤◌}
use Rattle.regalloc2_text.specs.Cursor.Cursor.{tokens_left}
use Rattle.regalloc2_text.proofs.reading.blocks.vregs.Given as goal

abbrev pub invariant-loop-vreg : goal.invariant-loop-vreg
invariant-loop-vreg g l = tokens_left l.cursor ≤ tokens_left l.fn.cursor

abbrev pub decreases-loop-vreg : goal.decreases-loop-vreg
decreases-loop-vreg g l = tokens_left l.cursor
