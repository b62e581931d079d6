use Rattle.std.proofs.Common.{refl}
use Rattle.regalloc2_analysis.proofs.marks.is_marked.Goals as goal

pub returns-then-number-marks : goal.returns-then-number-marks
returns-then-number-marks c = refl
