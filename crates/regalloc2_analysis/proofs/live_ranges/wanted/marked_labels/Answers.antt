use Rattle.std.proofs.Common.{◌∙◌, sym}
use Rattle.regalloc2_analysis.proofs.LiveRangesLemmas.Labelled.{marked_none, marked_some}
use Rattle.regalloc2_analysis.proofs.live_ranges.wanted.marked_labels.Goals as goal

pub returns-then-is_empty : goal.returns-then-is_empty
returns-then-is_empty g c =
    marked_none (g.F.Function.function c.args.f.now) c.debug_value_labels.result.now c.new.result.items c.debug_value_labels.ensures
    (sym c.is_empty.ensures ∙ c.if-is_empty.true) c.new.ensures.items

pub returns : goal.returns
returns g c = marked_some (g.F.Function.function c.args.f.now) c.labelled.result c.labelled.ensures.room c.labelled.ensures.marks
