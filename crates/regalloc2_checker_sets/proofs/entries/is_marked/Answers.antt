use Rattle.std.proofs.Common.{false, length, sym, refl, ◌∙◌}
use Rattle.std.proofs.lemmas.Bool.{le-ltb}
use Rattle.std.proofs.lemmas.List.{get_or_past}
use Rattle.regalloc2_checker_sets.proofs.entries.is_marked.Goals as goal

pub bounds-marks-index : goal.bounds-marks-index
bounds-marks-index c = c.if-index-marks.true

pub returns-then-index-marks : goal.returns-then-index-marks
returns-then-index-marks c = refl

pub returns-else-index-marks : goal.returns-else-index-marks
returns-else-index-marks c =
    le-ltb c.args.index (length c.args.marks.now) c.if-index-marks.false ∙ sym (get_or_past c.args.marks.now c.args.index false c.if-index-marks.false)
