use Rattle.std.proofs.Common.{ℕ, Bool, List, ◌≡◌, ◌<◌, ◌∙◌, [], length, sym, ap, subst, arith}
use Rattle.regalloc2_function.specs.FunctionValue.{FunctionValue, Label, label_of}
use Rattle.regalloc2_analysis.specs.LiveRanges.LiveRanges.{AreLabelsMarked, IsWanted}
use Rattle.regalloc2_analysis.specs.LiveRanges.LiveRanges.AreKeptLabels.{none}
use Rattle.regalloc2_analysis.specs.LiveRanges.WalkInvariant.{AreNamers}
use Rattle.regalloc2_analysis.proofs.LiveRangesLemmas.KeptLabels.{nothing_mapped}
use Rattle.regalloc2_analysis.proofs.LiveRangesLemmas.Labelled.{some_given}
use Rattle.regalloc2_analysis.proofs.LiveRangesLemmas.Named.{lists_adding}
use Rattle.regalloc2_analysis.proofs.live_ranges.labels.kept_labels.Goals as goal

pub returns-then-is_empty-clause-ok : goal.returns-then-is_empty-clause-ok
returns-then-is_empty-clause-ok g c =
    let f : FunctionValue = g.F.Function.function c.args.f.now in
    let empty : f.labels ≡ [] = sym c.debug_value_labels.ensures ∙ nothing_mapped label_of c.debug_value_labels.result.now
    (sym c.is_empty.ensures ∙ c.if-is_empty.true) in
    rw (empty, c.new.ensures.items) none

pub returns-in_err-wanted-clause-none : goal.returns-in_err-wanted-clause-none
returns-in_err-wanted-clause-none g c = λ empty.
    let some : 0 < length (g.F.Function.function c.args.f.now).labels = subst (λ (ls : List Label). 0 < length ls) c.debug_value_labels.ensures
    (some_given c.debug_value_labels.result.now (sym c.is_empty.ensures ∙ c.if-is_empty.false)) in
    let no = ap (λ (ls : List Label). length ls) empty in
    absurd (omega (arith, some, no))

pub returns-in_err-named-clause-none : goal.returns-in_err-named-clause-none
returns-in_err-named-clause-none g c = λ empty.
    let some : 0 < length (g.F.Function.function c.args.f.now).labels = subst (λ (ls : List Label). 0 < length ls) c.debug_value_labels.ensures
    (some_given c.debug_value_labels.result.now (sym c.is_empty.ensures ∙ c.if-is_empty.false)) in
    let no = ap (λ (ls : List Label). length ls) empty in
    absurd (omega (arith, some, no))

pub kept_labels_by-requires-clause-ssa : goal.kept_labels_by-requires-clause-ssa
kept_labels_by-requires-clause-ssa g c = c.requires

pub kept_labels_by-requires-clause-marked : goal.kept_labels_by-requires-clause-marked
kept_labels_by-requires-clause-marked g c =
    subst (AreLabelsMarked (g.F.Function.function c.args.f.now)) (sym c.as_slice-2.ensures.value) c.in_ok-wanted.ensures

pub kept_labels_by-requires-clause-listed : goal.kept_labels_by-requires-clause-listed
kept_labels_by-requires-clause-listed g c =
    let f : FunctionValue = g.F.Function.function c.args.f.now in
    let named : List ℕ = c.as_slice-3.result.now in
    lists_adding f (IsWanted c.as_slice-2.result.now) named (length named) (length f.insts)
    (subst (λ (ns : List ℕ). AreNamers f (IsWanted c.as_slice-2.result.now) ns (length ns) (length f.insts)) (sym c.as_slice-3.ensures.value)
    (subst (λ (ws : List Bool). AreNamers f (IsWanted ws) c.in_ok-named.named.items (length c.in_ok-named.named.items) (length f.insts))
    (c.as_slice.ensures.value ∙ sym c.as_slice-2.ensures.value) c.in_ok-named.ensures))

pub returns-clause-ok : goal.returns-clause-ok
returns-clause-ok g c = c.kept_labels_by.ensures.ok

pub returns-clause-none : goal.returns-clause-none
returns-clause-none g c = c.kept_labels_by.ensures.none

pub returns-clause-err : goal.returns-clause-err
returns-clause-err g c = c.kept_labels_by.ensures.err
