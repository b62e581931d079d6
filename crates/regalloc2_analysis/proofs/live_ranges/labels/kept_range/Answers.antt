use Rattle.std.proofs.Common.{◌≡◌, ◌∙◌, List, Option, Some, sym, ap, arith}
use Rattle.regalloc2_names.specs.Place.{inst_of_point}
use Rattle.regalloc2_function.specs.FunctionValue.{FunctionValue, Label, label_of}
use Rattle.regalloc2_analysis.specs.declared.live_ranges.LiveRange.{LiveRange}
use Rattle.regalloc2_analysis.specs.LiveRanges.LiveRanges.{range_at}
use Rattle.regalloc2_analysis.specs.LiveRanges.Entries.{spread}
use Rattle.regalloc2_analysis.proofs.LiveRangesLemmas.KeptLabels.{kept_right, kept_within, one_word, same_word}
use Rattle.regalloc2_analysis.proofs.live_ranges.labels.kept_range.Goals as goal
use Rattle.regalloc2_analysis.proofs.live_ranges.labels.kept_range.Goals.{else-eq-via-then-eq+then-first-index+else-index-last}
use Rattle.regalloc2_analysis.proofs.live_ranges.labels.kept_range.Goals.{else-eq-via-then-eq+else-first-index, else-eq-via-else-eq}

pub returns-then-index-last : goal.returns-then-index-last
returns-then-index-last g c =
    let f : FunctionValue = g.F.Function.function c.args.f.now in
    let l : Label = label_of c.args.label in
    let limited = g.met.F.Function.limited c.args.f.now in
    let t : List (Option LiveRange) = spread c.args.indexes.now c.args.ranges.now in
    let entry : range_at t l.vreg.number ≡ Some c.in_ok-range.range = sym (ap (range_at t) c.vreg.ensures.number) ∙ sym c.entry.ensures ∙ c.in_ok-range.was in
    let number = (c.requires.ranges.found l.vreg.number c.in_ok-range.range entry).0 in
    let same = same_word c.in_ok-range.range.vreg l.vreg number (sym c.eq.ensures ∙ c.if-eq.true) in
    let first : c.index-first.result ≡ inst_of_point c.in_ok-range.range.first = c.index-first.ensures ∙ c.inst.ensures.inst in
    let last : c.index-last.result ≡ inst_of_point c.in_ok-range.range.last = c.index-last.ensures ∙ c.inst-2.ensures.inst in
    kept_right f limited c.requires.ssa t c.requires.ranges l c.requires.labelled c.in_ok-range.range entry same
    (omega (arith, first, c.if-first-index.true, c.index.ensures)) (omega (arith, last, c.if-index-last.true, c.index-then-first-index.ensures))

pub returns-else-eq : goal.returns-else-eq
returns-else-eq g c start end kept =
    let f : FunctionValue = g.F.Function.function c.args.f.now in
    let l : Label = label_of c.args.label in
    let limited = g.met.F.Function.limited c.args.f.now in
    let t : List (Option LiveRange) = spread c.args.indexes.now c.args.ranges.now in
    let entry : range_at t l.vreg.number ≡ Some c.in_ok-range.range = sym (ap (range_at t) c.vreg.ensures.number) ∙ sym c.entry.ensures ∙ c.in_ok-range.was in
    let within = kept_within f limited c.requires.ssa t c.requires.ranges l c.requires.labelled c.in_ok-range.range entry start end kept in
    let first : c.index-first.result ≡ inst_of_point c.in_ok-range.range.first = c.index-first.ensures ∙ c.inst.ensures.inst in
    let last : c.index-last.result ≡ inst_of_point c.in_ok-range.range.last = c.index-last.ensures ∙ c.inst-2.ensures.inst in
    elim c.else-eq.branch [
      | else-eq-via-then-eq+then-first-index+else-index-last w ↦ omega (arith, last, within.2, w.if-index-last.false, w.index-then-first-index.ensures)
      | else-eq-via-then-eq+else-first-index w ↦ omega (arith, first, within.1, w.if-first-index.false, w.index.ensures)
      | else-eq-via-else-eq w ↦ (let yes' = c.eq.ensures ∙ one_word c.in_ok-range.range.vreg l.vreg within.0 in let fails = w.if-eq.false in absurd cc)
    ]
