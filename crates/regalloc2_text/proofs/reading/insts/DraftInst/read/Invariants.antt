use Rattle.regalloc2_text.specs.Cursor.Cursor.{tokens_left}
use Rattle.regalloc2_text.proofs.reading.insts.DraftInst.read.Given as goal

abbrev pub decreases-loop-alloc : goal.decreases-loop-alloc
decreases-loop-alloc g l = tokens_left l.cursor
