use Rattle.regalloc2_text.specs.Cursor.Cursor.{tokens_left}
use Rattle.codegen.proofs.text.draft.vregs.Given as goal

abbrev pub decreases-vregs : goal.decreases-vregs
decreases-vregs l = tokens_left l.cursor
