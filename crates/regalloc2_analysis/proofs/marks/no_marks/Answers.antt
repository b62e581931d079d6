use Rattle.std.proofs.Common.{false}
use Rattle.regalloc2_analysis.proofs.MadeTables.{found_everywhere}
use Rattle.regalloc2_analysis.proofs.marks.no_marks.Goals as goal

pub returns-clause-none : goal.returns-clause-none
returns-clause-none g c = found_everywhere false c.args.len c.from_elem.result (λ y h. h) c.from_elem.ensures.items_if_clones_equal
