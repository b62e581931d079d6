use Rattle.regalloc2_text.specs.Cursor.Cursor.{tokens_left}
use Rattle.regalloc2_text.proofs.reading.blocks.DraftBlock.read.Given as goal

abbrev pub decreases-loop-block : goal.decreases-loop-block
decreases-loop-block g l = tokens_left l.cursor
