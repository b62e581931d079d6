use Rattle.std.proofs.Common.{List, ◌∙◌, map, refl, ap, subst}
use Rattle.std.proofs.lemmas.List.{take_all}
use Rattle.std.proofs.lemmas.Result.{err_from_is_err_and}
use Rattle.regalloc2_function.specs.FunctionValue.{FunctionValue, Label, label_of}
use Rattle.regalloc2_analysis.specs.LiveRanges.LiveRanges.{AreKeptLabels}
use Rattle.regalloc2_analysis.specs.LiveRanges.LiveRanges.AreKeptLabels.{none}
use Rattle.regalloc2_analysis.proofs.LiveRangesLemmas.KeptLabels.{kept_more, kept_same, map_more}
use Rattle.regalloc2_analysis.proofs.LiveRangesLemmas.Labelled.{labelled_at}
use Rattle.regalloc2_analysis.proofs.live_ranges.labels.keep_labels.Goals as goal
use Rattle.regalloc2_analysis.proofs.live_ranges.labels.keep_labels.Goals.{in-Some+in_ok-push, in_default}

pub loop-label-init : goal.loop-label-init
loop-label-init g c = rw c.new-kept.ensures.items none

pub kept_range-requires-clause-labelled : goal.kept_range-requires-clause-labelled
kept_range-requires-clause-labelled g c =
    labelled_at (g.F.Function.function c.args.f.now) c.debug_value_labels-label-items.result.now c.loop-label.label-index c.label-item.result
    c.debug_value_labels-label-items.ensures c.loop-label-test.true c.label-item.is

pub loop-label-preserved : goal.loop-label-preserved
loop-label-preserved g c =
    let f : FunctionValue = g.F.Function.function c.args.f.now in
    let more = map_more label_of c.debug_value_labels-label-items.result.now c.loop-label.label-index c.label-item.result c.loop-label-test.true
    c.label-item.is in
    elim c.match-kept_range.branch [
      | in-Some+in_ok-push w ↦ rw (more, w.kept-is, w.in_ok-push.ensures.items)
          (kept_more f _ c.loop-label.kept.items (label_of c.label-item.result) _ c.loop-label.invariant refl w.in-Some.ensures)
      | in_default w ↦ rw (more, w.kept-is) (kept_same f _ c.loop-label.kept.items (label_of c.label-item.result) c.loop-label.invariant w.in_default.ensures)
    ]

pub bounds-label-items-label-index : goal.bounds-label-items-label-index
bounds-label-items-label-index g c = c.loop-label-test.true

pub kept_range-requires-clause-ssa : goal.kept_range-requires-clause-ssa
kept_range-requires-clause-ssa g c = c.requires.ssa

pub kept_range-requires-clause-ranges : goal.kept_range-requires-clause-ranges
kept_range-requires-clause-ranges g c = c.requires.ranges

pub returns-in_err-push-clause-err : goal.returns-in_err-push-clause-err
returns-in_err-push-clause-err g c =
    let p = err_from_is_err_and c.from_residual.result c.from_residual.ensures.1 in rw p.1 p.2

pub returns-clause-ok : goal.returns-clause-ok
returns-clause-ok g c =
    subst (λ (ls : List Label). AreKeptLabels (g.F.Function.function c.args.f.now) ls c.loop-label.kept.items)
    (ap (λ ls. map label_of ls) (take_all c.loop-label.label-index c.debug_value_labels-label-items.result.now c.loop-label-test.false)
    ∙ c.debug_value_labels-label-items.ensures) c.loop-label.invariant
