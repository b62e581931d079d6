-- Where blocks follow one another, an output whose edits are listed (`EditsAreListed`) has none after the last
-- instruction of a block.
use Rattle.std.proofs.Common.{ℕ, zero, suc, ◌≡◌, ◌+◌, ◌-◌, ◌<◌, ◌≤◌, length, ap, ◌∙◌, arith, inl, inr, subst}
use Rattle.std.specs.Prelude.{◌≢◌, ◌⊎◌, ◌*◌, true, All}
use Rattle.std.proofs.lemmas.Bool.{cases_lt}
use Rattle.std.proofs.lemmas.Bool.Decides.{nat_tests}
use Rattle.regalloc2_names.specs.Place.{before}
use Rattle.regalloc2_function.specs.FunctionValue.{FunctionValue, block_at}
use Rattle.regalloc2_function.specs.WellFormed.{BlocksFollow}
use Rattle.regalloc2_function.specs.OutputValue.{OutputValue, is_listed_at}
use Rattle.regalloc2_semantics.specs.Laws.{EditsAreListed}

module _ (f : FunctionValue) (follow : BlocksFollow f) where
  next_first : (b : ℕ) → b + 1 < length f.blocks → (block_at f (b + 1)).range.first ≡ (block_at f b).range.end
  next_first b less = let e : b + 1 - 1 ≡ b = omega arith in (follow (b + 1) less).2 (omega arith) ∙ ap (λ n. (block_at f n).range.end) e

  -- ends never fall
  ends_rise : (b k : ℕ) → b + k < length f.blocks → (block_at f b).range.end ≤ (block_at f (b + k)).range.end
  ends_rise b zero less = let e : b + 0 ≡ b = omega arith in rw e (omega arith)
  ends_rise b (suc k) less =
      let e : b + suc k ≡ b + k + 1 = omega arith in
      let h = ends_rise b k (omega arith) in
      let n = next_first (b + k) (omega arith) in
      let s = (follow (b + k + 1) (omega arith)).0 in
      rw e (omega (arith, h, n, s))

  ends_before_later : (b c : ℕ) → b < c → c < length f.blocks → (block_at f b).range.end ≤ (block_at f c).range.first
  ends_before_later b c less lc =
      let e : b + (c - 1 - b) + 1 ≡ c = omega arith in
      let h = ends_rise b (c - 1 - b) (omega arith) in
      let n = next_first (b + (c - 1 - b)) (omega arith) in
      subst (λ x. (block_at f b).range.end ≤ (block_at f x).range.first) e (omega (arith, h, n))

  ends_after_earlier : (b c : ℕ) → c ≤ b → b < length f.blocks → (block_at f c).range.end ≤ (block_at f b).range.end
  ends_after_earlier b c less lb =
      let e : c + (b - c) ≡ b = omega arith in
      subst (λ x. (block_at f c).range.end ≤ (block_at f x).range.end) e (ends_rise c (b - c) (omega arith))

  -- listed before an instruction, or after the one before it
  listed_where : (first i p : ℕ) → is_listed_at first i p ≡ true → (p ≡ 2 * i) ⊎ ((first < i) × (p + 1 ≡ 2 * i))
  listed_where first i p h = grind (arith, nat_tests)

  not_at_end : (b c i p : ℕ) → b < length f.blocks → c < length f.blocks → i < (block_at f c).range.end →
      is_listed_at (block_at f c).range.first i p ≡ true → p + 1 ≢ before (block_at f b).range.end
  not_at_end b c i p lb lc li h e =
      elim (listed_where (block_at f c).range.first i p h) [
        | inl at ↦ omega (arith, at, e)
        | inr at ↦ elim (cases_lt b c) [
          | inl less ↦ omega (arith, ends_before_later b c less lc, at.0, at.1, e)
          | inr more ↦ omega (arith, ends_after_earlier b c more lb, at.1, e, li)
        ]
      ]

  pub none_at_end : (out : OutputValue) → EditsAreListed f out → (b : ℕ) → b < length f.blocks →
      All (λ e. e.0 + 1 ≢ before (block_at f b).range.end) out.edits
  none_at_end out listed b lb k d less = let h = listed k d less in not_at_end b h.0 h.1 _ lb h.2 h.4 h.5
