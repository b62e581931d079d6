-- Where columns begin and end.
use Rattle.std.proofs.Common.{◌≡◌, ◌∙◌, ℕ, ◌+◌, ◌*◌, ◌<◌, ◌≤◌, List, length, take, set, sum, get_or, arith, inl, inr}
use Rattle.std.specs.Prelude.{slice_range, ◌⊎◌}
use Rattle.std.proofs.lemmas.Bool.{cases_lt}
use Rattle.std.proofs.lemmas.List.{get_or-set_same, get_or-set_other}
use Rattle.std.proofs.lemmas.List.Sums.{sum_by_more, sum_by-take-le}
use Rattle.std.proofs.lemmas.List.Edits.{length-between}

-- a part of a list of widths lies in as many words as there are in all
pub record Lies (ws : List ℕ) (n k : ℕ) : Type 0 where
  pub rises : sum (take k ws) ≤ sum (take (k + 1) ws)
  pub within : sum (take (k + 1) ws) ≤ n
  pub width : sum (take (k + 1) ws) ≡ sum (take k ws) + get_or ws k 0

pub lies : (ws : List ℕ) (n k : ℕ) → k < length ws → n ≡ sum ws → Lies ws n k
lies ws n k less is =
    let step : sum (take (k + 1) ws) ≡ sum (take k ws) + get_or ws k 0 = sum_by_more (λ x. x) ws k 0 less in
    record {
      rises = omega (arith, step);
      within = omega (arith, sum_by-take-le (λ x. x) ws (k + 1), is);
      width = step;
    }

-- the words of a column are as many as its width
pub column-count : {X : Type 0} (words : List X) (ws : List ℕ) (k : ℕ) → k < length ws → length words ≡ sum ws →
    length (slice_range words (sum (take k ws)) (sum (take (k + 1) ws))) ≡ get_or ws k 0
column-count words ws k less is =
    let l = lies ws (length words) k less is in
    length-between words (sum (take k ws)) (sum (take (k + 1) ws)) l.within ∙ omega (arith, l.width)

-- one more start
pub starts-more : (ws starts : List ℕ) (k : ℕ) → k < length ws → k + 1 < length starts → ((j : ℕ) → j ≤ k → get_or starts j 0 ≡ sum (take j ws)) →
    (j : ℕ) → j ≤ k + 1 → get_or (set starts (k + 1) (get_or starts k 0 + get_or ws k 0)) j 0 ≡ sum (take j ws)
starts-more ws starts k less room before j upto = by (cases_lt j (k + 1))
  where
    next : ℕ
    next = get_or starts k 0 + get_or ws k 0

    by : (j < k + 1) ⊎ (k + 1 ≤ j) → get_or (set starts (k + 1) next) j 0 ≡ sum (take j ws)
    by (inl below) = get_or-set_other starts (k + 1) j next 0 (omega arith) ∙ before j (omega arith)
    by (inr above) =
        let same : j ≡ k + 1 = omega arith in
        let step : sum (take (k + 1) ws) ≡ sum (take k ws) + get_or ws k 0 = sum_by_more (λ x. x) ws k 0 less in
        rw same (get_or-set_same starts (k + 1) next 0 room ∙ omega (arith, step, before k (omega arith)))

-- the start behind `k + 1` widths below `m` is at most `k * m + m`
pub starts-small : (ws starts : List ℕ) (k m : ℕ) → k + 1 < length starts → get_or starts k 0 ≤ k * m → get_or ws k 0 < m →
    get_or (set starts (k + 1) (get_or starts k 0 + get_or ws k 0)) (k + 1) 0 ≤ k * m + m
starts-small ws starts k m room before here =
    omega (arith, get_or-set_same starts (k + 1) (get_or starts k 0 + get_or ws k 0) 0 room, before, here)
