-- Lemmas on a list of the instructions that may add something to the live ranges of requested numbers.
use Rattle.std.proofs.Common.{ℕ, ◌≡◌, ◌≢◌, ◌+◌, ◌-◌, ◌<◌, ◌≤◌, inl, inr, List, length, sym, ap, subst, zero, suc, arith}
use Rattle.std.specs.Prelude.{slice_index_or, Option}
use Rattle.std.proofs.lemmas.Bool.{cases_lt}
use Rattle.regalloc2_function.specs.FunctionValue.{FunctionValue, block_at}
use Rattle.regalloc2_function.specs.WellFormed.{BlocksFollow}
use Rattle.regalloc2_analysis.specs.declared.live_ranges.LiveRange.{LiveRange}
use Rattle.regalloc2_analysis.specs.declared.live_ranges.ends.RangeEnd.{RangeEnd}
use Rattle.regalloc2_analysis.specs.LiveRanges.WalkInvariant.{AddsNothing, AreRangesWalked, ListsAdding}
use Rattle.regalloc2_analysis.proofs.LiveRangesLemmas.LiveRangeTable.{walked_over}

module _ (f : FunctionValue) (Asked : ℕ → Type 0) (listed : List ℕ) where
  -- instructions after the last listed one add nothing
  pub nothing_above : (many i k : ℕ) → ListsAdding f Asked listed many i → k < i → (0 < many → slice_index_or listed (many - 1) 0 < k) → AddsNothing f Asked k
  nothing_above many i k h lt past = elim (h.all k lt) [
    | inl adds ↦ adds
    | inr s ↦ absurd (let low = s.1 in let is = s.2 in let top = past (omega (arith, low)) in elim (cases_lt s.0 (many - 1)) [
      | inl less ↦ (let up = h.rising s.0 (many - 1) less (omega (arith, low)) in omega (arith, up, is, top))
      | inr le ↦ (let same : s.0 ≡ many - 1 = omega (arith, le, low) in
          let e : slice_index_or listed s.0 0 ≡ slice_index_or listed (many - 1) 0 = ap (λ (m : ℕ). slice_index_or listed m 0) same in
          omega (arith, e, is, top))
    ])
  ]

  -- with an instruction less, the same are listed if it isn't the last one listed
  pub listed_below : (many i : ℕ) → (0 < many → slice_index_or listed (many - 1) 0 ≢ i) → ListsAdding f Asked listed many (i + 1) →
      ListsAdding f Asked listed many i
  listed_below many i other h = record {
    within = h.within;
    rising = h.rising;
    below = λ j l. let some : 0 < many = omega (arith, l) in let ne = other some in let top = h.below (many - 1) (omega (arith, l)) in
        elim (cases_lt j (many - 1)) [
          | inl less ↦ (let up = h.rising j (many - 1) less (omega (arith, l)) in omega (arith, up, top, ne))
          | inr le ↦ (let same : j ≡ many - 1 = omega (arith, le, l) in
              let e : slice_index_or listed j 0 ≡ slice_index_or listed (many - 1) 0 = ap (λ (m : ℕ). slice_index_or listed m 0) same in
              omega (arith, e, top, ne))
        ];
    all = λ k l. h.all k (omega (arith, l));
  }

  -- without the instructions from j on, the same are listed if j is past the last listed one
  pub listed_to : (many i j : ℕ) → j ≤ i → (0 < many → slice_index_or listed (many - 1) 0 < j) → ListsAdding f Asked listed many i →
      ListsAdding f Asked listed many j
  listed_to many i j le past h = record {
    within = h.within;
    rising = h.rising;
    below = λ n l. let top = past (omega (arith, l)) in elim (cases_lt n (many - 1)) [
      | inl less ↦ (let up = h.rising n (many - 1) less (omega (arith, l)) in omega (arith, up, top))
      | inr ge ↦ (let same : n ≡ many - 1 = omega (arith, ge, l) in
          let e : slice_index_or listed n 0 ≡ slice_index_or listed (many - 1) 0 = ap (λ (m : ℕ). slice_index_or listed m 0) same in omega (arith, e, top))
    ];
    all = λ k l. h.all k (omega (arith, l, le));
  }

  -- without the last listed instruction, the instructions below it are listed
  pub listed_fewer : (many i : ℕ) → 0 < many → ListsAdding f Asked listed many i → ListsAdding f Asked listed (many - 1) (slice_index_or listed (many - 1) 0)
  listed_fewer many i some h = record {
    within = let within = h.within in omega (arith, within);
    rising = λ j k l r. h.rising j k l (omega (arith, r));
    below = λ j l. h.rising j (many - 1) l (omega (arith, some));
    all = λ k l. let low = h.below (many - 1) (omega (arith, some)) in elim (h.all k (omega (arith, l, low))) [
      | inl adds ↦ inl adds
      | inr s ↦ (let lt = s.1 in let is = s.2 in elim (cases_lt s.0 (many - 1)) [
        | inl less ↦ inr (s.0, less, s.2)
        | inr le ↦ absurd (let e : slice_index_or listed s.0 0 ≡ slice_index_or listed (many - 1) 0 =
            ap (λ (m : ℕ). slice_index_or listed m 0) (let same : s.0 ≡ many - 1 = omega (arith, le, lt) in same) in omega (arith, e, is, l))
      ])
    ];
  }

-- the walk passes over several instructions at once, none of them the last of its block
pub walked_down : (f : FunctionValue) → BlocksFollow f → (Asked : ℕ → Type 0) (b c i many : ℕ) (ends : List (Option RangeEnd))
    (ranges : List (Option LiveRange)) → b < length f.blocks → (block_at f b).range.first ≤ i → i + many < (block_at f b).range.end →
    ((k : ℕ) → i ≤ k → k < i + many → AddsNothing f Asked k) → AreRangesWalked f Asked (i + many) c ends ranges → AreRangesWalked f Asked i c ends ranges
walked_down f follow Asked b c i zero ends ranges lt from upto adds w =
    subst (λ (n : ℕ). AreRangesWalked f Asked n c ends ranges) (let e : i + zero ≡ i = omega arith in e) w
walked_down f follow Asked b c i (suc many) ends ranges lt from upto adds w =
    walked_over f follow Asked b c i ends ranges lt from (omega (arith, upto)) (omega (arith, upto)) (adds i (omega arith) (omega arith))
    (walked_down f follow Asked b c (i + 1) many ends ranges lt (omega (arith, from)) (omega (arith, upto))
    (λ k l r. adds k (omega (arith, l)) (omega (arith, r)))
    (subst (λ (n : ℕ). AreRangesWalked f Asked n c ends ranges) (let e : i + suc many ≡ i + 1 + many = omega arith in e) w))

-- the walk passes over instructions down to any of the block that is past the last listed one
pub walked_to : (f : FunctionValue) → BlocksFollow f → (Asked : ℕ → Type 0) (listed : List ℕ) (many b c i j : ℕ) (ends : List (Option RangeEnd))
    (ranges : List (Option LiveRange)) → b < length f.blocks → (block_at f b).range.first ≤ j → j ≤ i → i < (block_at f b).range.end →
    ListsAdding f Asked listed many i → (0 < many → slice_index_or listed (many - 1) 0 < j) → AreRangesWalked f Asked i c ends ranges →
    AreRangesWalked f Asked j c ends ranges
walked_to f follow Asked listed many b c i j ends ranges lt from le upto h past w =
    let down : j + (i - j) ≡ i = omega (arith, le) in
    walked_down f follow Asked b c j (i - j) ends ranges lt from (omega (arith, le, upto))
    (λ k l r. nothing_above f Asked listed many i k h (omega (arith, r, le)) (λ some. let top = past some in omega (arith, top, l)))
    (subst (λ (n : ℕ). AreRangesWalked f Asked n c ends ranges) (sym down) w)
