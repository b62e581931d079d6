use Rattle.std.proofs.Common.{ℕ, ◌≡◌, ◌<◌, List, length, ◌∙◌, [], sym, ap, subst, arith}
use Rattle.std.specs.Prelude.{Option}
use Rattle.regalloc2_function.specs.FunctionValue.{FunctionValue, Label, label_of}
use Rattle.regalloc2_analysis.specs.declared.live_ranges.LiveRange.{LiveRange}
use Rattle.regalloc2_analysis.specs.LiveRanges.Entries.{spread}
use Rattle.regalloc2_analysis.specs.LiveRanges.LiveRanges.{AreLiveRanges, IsLabelled}
use Rattle.regalloc2_analysis.specs.LiveRanges.LiveRanges.AreKeptLabels.{none}
use Rattle.regalloc2_analysis.proofs.LiveRangesLemmas.KeptLabels.{nothing_mapped}
use Rattle.regalloc2_analysis.proofs.LiveRangesLemmas.Labelled.{ranges_of_labelled, some_given}
use Rattle.regalloc2_analysis.proofs.live_ranges.labels.kept_labels_by.Goals as goal

pub returns-then-is_empty-clause-ok : goal.returns-then-is_empty-clause-ok
returns-then-is_empty-clause-ok g c =
    let f : FunctionValue = g.F.Function.function c.args.f.now in
    let empty : f.labels ≡ [] = sym c.debug_value_labels.ensures ∙ nothing_mapped label_of c.debug_value_labels.result.now
    (sym c.is_empty.ensures ∙ c.if-is_empty.true) in
    rw (empty, c.new.ensures.items) none

-- of what labels name, all live ranges are there
pub keep_labels-requires-clause-ranges : goal.keep_labels-requires-clause-ranges
keep_labels-requires-clause-ranges g c =
    let f : FunctionValue = g.F.Function.function c.args.f.now in
    let indexes : List ℕ = c.in_ok-few.few.indexes.items in
    let entries : List (Option LiveRange) = c.in_ok-few.few.entries.items in
    subst (λ (ss : List ℕ). AreLiveRanges f (IsLabelled f) (spread ss c.as_slice-2.result.now)) (sym c.as_slice.ensures.value)
    (subst (λ (t : List (Option LiveRange)). AreLiveRanges f (IsLabelled f) (spread indexes t)) (sym c.as_slice-2.ensures.value)
    (ranges_of_labelled f c.requires.ssa c.args.wanted.now (spread indexes entries) (c.requires.marked.room
    (subst (λ (ls : List Label). 0 < length ls) c.debug_value_labels.ensures
    (some_given c.debug_value_labels.result.now (sym c.is_empty.ensures ∙ c.if-is_empty.false))))
    c.requires.marked.marks c.in_ok-few.ensures.ok))

pub few_ranges-requires-clause-ssa : goal.few_ranges-requires-clause-ssa
few_ranges-requires-clause-ssa g c = c.requires.ssa

pub few_ranges-requires-clause-listed : goal.few_ranges-requires-clause-listed
few_ranges-requires-clause-listed g c = c.requires.listed

pub keep_labels-requires-clause-ssa : goal.keep_labels-requires-clause-ssa
keep_labels-requires-clause-ssa g c = c.requires.ssa

pub returns-in_err-few-clause-none : goal.returns-in_err-few-clause-none
returns-in_err-few-clause-none g c = λ empty.
    let some : 0 < length (g.F.Function.function c.args.f.now).labels = subst (λ (ls : List Label). 0 < length ls) c.debug_value_labels.ensures
    (some_given c.debug_value_labels.result.now (sym c.is_empty.ensures ∙ c.if-is_empty.false)) in
    let no = ap (λ (ls : List Label). length ls) empty in
    absurd (omega (arith, some, no))

pub returns-clause-ok : goal.returns-clause-ok
returns-clause-ok g c = c.keep_labels.ensures.ok

pub returns-clause-err : goal.returns-clause-err
returns-clause-err g c = c.keep_labels.ensures.err

pub returns-clause-none : goal.returns-clause-none
returns-clause-none g c = λ empty.
    let some : 0 < length (g.F.Function.function c.args.f.now).labels = subst (λ (ls : List Label). 0 < length ls) c.debug_value_labels.ensures
    (some_given c.debug_value_labels.result.now (sym c.is_empty.ensures ∙ c.if-is_empty.false)) in
    let no = ap (λ (ls : List Label). length ls) empty in
    absurd (omega (arith, some, no))
