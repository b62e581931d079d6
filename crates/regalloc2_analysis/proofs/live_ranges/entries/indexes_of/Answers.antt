use Rattle.std.proofs.Common.{ℕ, ◌≡◌, ◌<◌, ◌∙◌, Bool, false, List, [], ◌∷◌, length, slice_index_or, ap, sym, arith}
use Rattle.std.proofs.lemmas.List.{length-append}
use Rattle.regalloc2_index.proofs.Bools.{not_both}
use Rattle.regalloc2_analysis.proofs.LiveRangesLemmas.Spread.{index_more, index_past, indexes_all}
use Rattle.regalloc2_analysis.proofs.live_ranges.entries.indexes_of.Goals as goal
use Rattle.regalloc2_analysis.proofs.live_ranges.entries.indexes_of.Goals.{then-is_marked+in_ok-push, else-is_marked+in_ok-push-2}

pub loop-number-preserved : goal.loop-number-preserved
loop-number-preserved g c =
    let ws : List Bool = c.args.wanted.now in
    let indexes : List ℕ = c.loop-number.indexes.items in
    let len : length indexes ≡ c.loop-number.number = c.loop-number.invariant.len in
    let room : length indexes < c.args.num = omega (arith, len, c.loop-number-test.true) in
    let test : slice_index_or ws (length indexes) false ≡ c.is_marked.result = ap (λ (n : ℕ). slice_index_or ws n false) len ∙ sym c.is_marked.ensures in
    elim c.if-is_marked.branch [
      | then-is_marked+in_ok-push w ↦ rw (w.indexes-is, w.count-is, w.in_ok-push.ensures.items) (record {
        len = let more = length-append indexes (c.loop-number.count ∷ []) in omega (arith, more, len);
        indexes = index_more ws indexes c.loop-number.count c.args.num room (test ∙ w.if-is_marked.true) c.loop-number.invariant.indexes;
      })
      | else-is_marked+in_ok-push-2 w ↦ rw (w.indexes-is, w.count-is, w.in_ok-push-2.ensures.items) (record {
        len = let more = length-append indexes (c.args.num ∷ []) in omega (arith, more, len);
        indexes = index_past ws indexes c.loop-number.count c.args.num room
            (λ is. not_both (slice_index_or ws (length indexes) false) is (test ∙ w.if-is_marked.false)) c.loop-number.invariant.indexes;
      })
    ]

pub returns-clause-indexes : goal.returns-clause-indexes
returns-clause-indexes g c = indexes_all c.args.wanted.now c.loop-number.indexes.items c.loop-number.count c.args.num c.loop-number.invariant.indexes
