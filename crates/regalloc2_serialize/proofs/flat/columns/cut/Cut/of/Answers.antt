use Rattle.std.proofs.Common.{arith, ◌≡◌, ◌∙◌, ◌<◌, ◌+◌, ℕ, List, ap, take, sum, length}
use Rattle.std.specs.Prelude.{slice_index}
use Rattle.std.proofs.lemmas.List.Sums.{sum_by-take-le}
use Rattle.regalloc2_serialize.specs.Flat.Columns.Layout.{header_of, widths}
use Rattle.regalloc2_serialize.proofs.ColumnsLemmas.Starts.{lies}
use Rattle.regalloc2_serialize.proofs.flat.columns.cut.Cut.of.Goals as goal

pub invariant_of-result : goal.invariant_of-result
invariant_of-result c =
    let words = c.args.words.now in
    let ws : List ℕ = widths (header_of words) in
    let starts = c.starts_of-starts.result in
    let same : c.widths.result ≡ ws = c.widths.ensures.widths ∙ ap widths c.of-header.ensures in
    let at : (k : ℕ) → k < 20 → slice_index starts k ≡ sum (take k ws) = λ k less. c.starts_of-starts.ensures k less ∙ ap (λ l. sum (take k l)) same in
    let end : slice_index starts 19 ≡ sum ws = at 19 (omega arith) in
    let count : length words ≡ sum ws = omega (arith, c.if-starts-words.false, end) in
    record {
      header_is = c.of-header.ensures;
      starts_are = at;
      count = count;
      rise = λ k less. omega (arith, (lies ws (length words) k less count).rises, at k (omega arith), at (k + 1) (omega arith));
      within = λ k less. omega (arith, at k less, sum_by-take-le (λ x. x) ws k, count);
    }
