use Rattle.std.proofs.Common.{ℕ, Bool, List, ◌≡◌, ◌<◌, false, length, slice_index_or, ap, sym, subst, ◌∙◌}
use Rattle.std.specs.Prelude.{◌↔◌}
use Rattle.std.proofs.lemmas.List.{with_items_is}
use Rattle.regalloc2_function.specs.FunctionValue.{FunctionValue}
use Rattle.regalloc2_function.specs.Inside.TableLength.{CoversDefinitions}
use Rattle.regalloc2_analysis.specs.LiveRanges.LiveRanges.{IsLabelled, IsWanted}
use Rattle.regalloc2_analysis.proofs.LiveRangesLemmas.Labelled.{labelled_are}
use Rattle.regalloc2_analysis.proofs.live_ranges.wanted.labelled.Goals as goal

-- the table has the requested length
pub returns-clause-room : goal.returns-clause-room
returns-clause-room g c =
    let f : FunctionValue = g.F.Function.function c.args.f.now in
    let long : length c.mark_labelled.new.wanted ≡ c.table_length-vregs.result = c.mark_labelled.auto.wanted
    ∙ ap (λ (xs : List Bool). length xs) c.as_mut_slice.ensures.value ∙ c.in_ok-wanted.ensures.len in
    subst (λ (ws : List Bool). CoversDefinitions f (length ws))
    (sym (with_items_is c.in_ok-wanted.wanted c.mark_labelled.new.wanted (c.mark_labelled.auto.wanted ∙ c.as_mut_slice.ensures.len)))
    (subst (CoversDefinitions f) (sym long) c.table_length-vregs.ensures.room)

pub returns-clause-marks : goal.returns-clause-marks
returns-clause-marks g c =
    let f : FunctionValue = g.F.Function.function c.args.f.now in
    let are : (n : ℕ) → n < length c.as_mut_slice.result.now → IsWanted c.mark_labelled.new.wanted n ↔ IsLabelled f n =
    labelled_are f c.debug_value_labels.result.now c.as_mut_slice.result.now c.mark_labelled.new.wanted
    (λ n. ap (λ (xs : List Bool). slice_index_or xs n false) c.as_mut_slice.ensures.value ∙ c.in_ok-wanted.ensures.none n)
    c.debug_value_labels.ensures c.mark_labelled.ensures in
    subst (λ (ws : List Bool). (n : ℕ) → n < length ws → IsWanted ws n ↔ IsLabelled f n)
    (sym (with_items_is c.in_ok-wanted.wanted c.mark_labelled.new.wanted (c.mark_labelled.auto.wanted ∙ c.as_mut_slice.ensures.len)))
    (λ n lt. are n (subst (λ (m : ℕ). n < m) c.mark_labelled.auto.wanted lt))
