-- Words as masks of operands: one bit more, the complement, and the lowest bit cleared.
use Rattle.std.proofs.Common.{ℕ, zero, suc, ◌≡◌, ◌≢◌, ◌<◌, ◌≤◌, ◌+◌, ◌-◌, ◌*◌, ◌/◌, ◌%◌, ◌^◌, refl, sym, ap, subst, ◌∙◌, arith}
use Rattle.std.proofs.Common.{Bool, true, false, not, nat_eq, List, [], ◌∷◌, length, filter, bit_and, bit_or, w64, inl, inr}
use Rattle.std.proofs.Math.Nat.{pow-suc}
use Rattle.std.proofs.lemmas.Bool.{cases_lt}
use Rattle.std.proofs.lemmas.Bool.Decides.{nat_tests}
use Rattle.std.proofs.lemmas.Nat.{pow_pos, pow_below, one_shl, or_shifted, and_le_r}
use Rattle.std.proofs.lemmas.Nat.Bits.{bit_at_lowest, bit_at-suc, bit_at-zero, bit_at-lt, bit_at_above, bit_at_and, bit_at_not, bit_at_ones}
use Rattle.std.proofs.lemmas.Nat.Bits.{bit_at-trailing_zeros}
use Rattle.std.specs.Int.{bit_at, trailing_zeros}
use Rattle.std.specs.List.{enumerate_from}
use mir.Val.{bool_byte}
use Rattle.regalloc2_names.specs.declared.OperandPos.{OperandPos}
use Rattle.regalloc2_names.specs.declared.OperandPos.TheVariants.{Early, Late}
use Rattle.regalloc2_names.specs.declared.OperandKind.{OperandKind}
use Rattle.regalloc2_names.specs.declared.OperandKind.TheVariants.{Def, Use}
use Rattle.regalloc2_names.specs.Operand.{OperandValue, is_def, is_late}
use Rattle.regalloc2_function.specs.FunctionValue.{op_at}
use Rattle.regalloc2_parts.specs.Picked.{is_early_operand, is_late_operand, is_use_kind, picked, stands_early, stands_late}
use Rattle.regalloc2_fastalloc_state.specs.Masks.{IsMask, max_masked, selected}

-- ---- lists

-- two tests that agree at each operand and its index select the same operands
tests_agree : (f g : ℕ × OperandValue → Bool) (ops : List OperandValue) (n : ℕ) →
    ((i j : ℕ) → i ≡ n + j → j < length ops → f (i, op_at ops j) ≡ g (i, op_at ops j)) → filter f (enumerate_from n ops) ≡ filter g (enumerate_from n ops)
tests_agree f g [] n same = refl
tests_agree f g (o ∷ ops) n same =
    let here : f (n, o) ≡ g (n, o) = same n 0 (omega arith) (omega arith) in
    let rest = tests_agree f g ops (n + 1) (λ i j e less. same i (suc j) (omega arith) (omega arith)) in
    rw (here, rest) refl

-- a test's mask selects the operands that pass the test
pub mask_selects : (test : OperandValue → Bool) (mask : ℕ) (ops : List OperandValue) → IsMask test ops mask → selected mask ops ≡ picked test ops
mask_selects test mask ops is = tests_agree (λ x. nat_eq (bit_at mask x.0) 1) (λ x. test x.1) ops 0 same
  where
    same : (i j : ℕ) → i ≡ 0 + j → j < length ops → nat_eq (bit_at mask i) 1 ≡ test (op_at ops j)
    same i j e less = subst (λ k. nat_eq (bit_at mask k) 1 ≡ test (op_at ops j)) (omega arith) (is.bits j less)

none_from : (ops : List OperandValue) (n : ℕ) → filter (λ x. nat_eq (bit_at 0 x.0) 1) (enumerate_from n ops) ≡ []
none_from [] n = refl
none_from (o ∷ ops) n = rw (bit_at-zero n) (none_from ops (n + 1))

-- the word 0 selects no operand
pub zero_selects_none : (mask : ℕ) (ops : List OperandValue) → mask ≡ 0 → selected mask ops ≡ []
zero_selects_none mask ops e = rw e (none_from ops 0)

-- a word whose lowest bit is t selects the operand there, and then the operands of the word without the bit
lowest_from : (ops : List OperandValue) (n j t v w : ℕ) → t ≡ n + j → j < length ops → bit_at v t ≡ 1 → bit_at w t ≡ 0
    → ((i : ℕ) → i < t → bit_at v i ≡ 0) → ((i : ℕ) → i ≢ t → bit_at w i ≡ bit_at v i)
    → filter (λ x. nat_eq (bit_at v x.0) 1) (enumerate_from n ops) ≡ (t, op_at ops j) ∷ filter (λ x. nat_eq (bit_at w x.0) 1) (enumerate_from n ops)
lowest_from [] n j t v w at less one none below other = absurd (omega arith)
lowest_from (o ∷ ops) n zero t v w at less one none below other =
    let e : t ≡ n = omega arith in
    let a : bit_at v n ≡ 1 = subst (λ k. bit_at v k ≡ 1) e one in
    let b : bit_at w n ≡ 0 = subst (λ k. bit_at w k ≡ 0) e none in
    let rest = tests_agree (λ x. nat_eq (bit_at v x.0) 1) (λ x. nat_eq (bit_at w x.0) 1) ops (n + 1)
    (λ i j f l. ap (λ k. nat_eq k 1) (sym (other i (omega arith)))) in
    rw (a, b, e, rest) refl
lowest_from (o ∷ ops) n (suc j) t v w at less one none below other =
    let a : bit_at v n ≡ 0 = below n (omega arith) in
    let b : bit_at w n ≡ 0 = other n (omega arith) ∙ a in
    rw (a, b) (lowest_from ops (n + 1) j t v w (omega arith) (omega arith) one none below other)

-- ---- the lowest bit

-- a number less one has no bit where the number has its lowest
less_one_at : (t m : ℕ) → bit_at m t ≡ 1 → ((i : ℕ) → i < t → bit_at m i ≡ 0) → bit_at (m - 1) t ≡ 0
less_one_at zero m one below = omega (arith, one, bit_at_lowest m, bit_at_lowest (m - 1))
less_one_at (suc t) m one below =
    let even : m % 2 ≡ 0 = omega (arith, below 0 (omega arith), bit_at_lowest m) in
    let half : (m - 1) / 2 ≡ m / 2 - 1 = omega arith in
    bit_at-suc (m - 1) t ∙ ap (λ k. bit_at k t) half
    ∙ less_one_at t (m / 2) (sym (bit_at-suc m t) ∙ one) (λ i l. sym (bit_at-suc m i) ∙ below (suc i) (omega arith))

-- a number less one has the bits of the number above its lowest
less_one_above : (t m i : ℕ) → bit_at m t ≡ 1 → ((i : ℕ) → i < t → bit_at m i ≡ 0) → t < i → bit_at (m - 1) i ≡ bit_at m i
less_one_above t m zero one below more = absurd (omega arith)
less_one_above zero m (suc i) one below more =
    let half : (m - 1) / 2 ≡ m / 2 = omega (arith, one, bit_at_lowest m) in
    bit_at-suc (m - 1) i ∙ ap (λ k. bit_at k i) half ∙ sym (bit_at-suc m i)
less_one_above (suc t) m (suc i) one below more =
    let even : m % 2 ≡ 0 = omega (arith, below 0 (omega arith), bit_at_lowest m) in
    let half : (m - 1) / 2 ≡ m / 2 - 1 = omega arith in
    bit_at-suc (m - 1) i ∙ ap (λ k. bit_at k i) half
    ∙ less_one_above t (m / 2) i (sym (bit_at-suc m t) ∙ one) (λ i l. sym (bit_at-suc m i) ∙ below (suc i) (omega arith)) (omega arith)
    ∙ sym (bit_at-suc m i)

-- m & (m - 1) has the bits of m but the lowest
module _ (t m : ℕ) (one : bit_at m t ≡ 1) (below : (i : ℕ) → i < t → bit_at m i ≡ 0) where
  cleared_at : bit_at (bit_and m (m - 1)) t ≡ 0
  cleared_at = omega (arith, bit_at_and m (m - 1) t, less_one_at t m one below)

  cleared_other : (i : ℕ) → i ≢ t → bit_at (bit_and m (m - 1)) i ≡ bit_at m i
  cleared_other i apart = elim (cases_lt i t) [
    | inl less ↦ omega (arith, bit_at_and m (m - 1) i, below i less)
    | inr more ↦ omega (arith, bit_at_and m (m - 1) i, less_one_above t m i one below (omega arith))
  ]

-- the lowest bit of a word for these operands is that of an operand
pub lowest_inside : (m : ℕ) (ops : List OperandValue) → m ≢ 0 → m < 2 ^ 64 → m < 2 ^ length ops → trailing_zeros w64 m < length ops
lowest_inside m ops some fits small = elim (cases_lt (trailing_zeros w64 m) (length ops)) [
  | inl less ↦ less
  | inr more ↦
      let one = (bit_at-trailing_zeros w64 m (omega (arith, some)) fits).1 in
      absurd (omega (arith, one, bit_at_above m (length ops) (trailing_zeros w64 m) small more))
]

-- a word selects the operand of its lowest bit, and then the operands of its other bits
pub lowest_first : (m : ℕ) (ops : List OperandValue) → m ≢ 0 → m < 2 ^ 64 → m < 2 ^ length ops →
    selected m ops ≡ (trailing_zeros w64 m, op_at ops (trailing_zeros w64 m)) ∷ selected (bit_and m (m - 1)) ops
lowest_first m ops some fits small =
    let t = bit_at-trailing_zeros w64 m (omega (arith, some)) fits in
    let k = trailing_zeros w64 m in
    lowest_from ops 0 k k m (bit_and m (m - 1)) (omega arith) (lowest_inside m ops some fits small) t.1 (cleared_at k m t.1 t.2) t.2 (cleared_other k m t.1 t.2)

-- ---- masks

-- the mask of one operand more, which gets the lowest bit
pub mask_before : (test : OperandValue → Bool) (o : OperandValue) (ops : List OperandValue) (m : ℕ) (b : Bool) → b ≡ test o → length ops < max_masked →
    IsMask test ops m → IsMask test (o ∷ ops) (bit_or (m * 2 % 18446744073709551616) (bool_byte b))
mask_before test o ops m b is few mask = rw joined (record { bits = bits; below = below })
  where
    bit : (b : Bool) → bool_byte b < 2
    bit true = omega arith
    bit false = omega arith

    tells : (b : Bool) → nat_eq (bool_byte b) 1 ≡ b
    tells true = refl
    tells false = refl

    joined : bit_or (m * 2 % 18446744073709551616) (bool_byte b) ≡ m * 2 + bool_byte b
    joined =
        let small : m < 9223372036854775808 = omega (arith, mask.below, pow_below (length ops) 63 few) in
        let whole : m * 2 % 18446744073709551616 ≡ m * 2 = omega arith in
        rw whole (or_shifted m 1 (bool_byte b) (bit b))

    bits : (k : ℕ) → k < length (o ∷ ops) → nat_eq (bit_at (m * 2 + bool_byte b) k) 1 ≡ test (op_at (o ∷ ops) k)
    bits zero less =
        let low : bit_at (m * 2 + bool_byte b) 0 ≡ bool_byte b = omega (arith, bit_at_lowest (m * 2 + bool_byte b), bit b) in
        ap (λ n. nat_eq n 1) low ∙ tells b ∙ is
    bits (suc k) less =
        let half : (m * 2 + bool_byte b) / 2 ≡ m = omega (arith, bit b) in
        ap (λ n. nat_eq n 1) (bit_at-suc (m * 2 + bool_byte b) k ∙ ap (λ n. bit_at n k) half) ∙ mask.bits k (omega arith)

    below : m * 2 + bool_byte b < 2 ^ length (o ∷ ops)
    below = omega (arith, mask.below, bit b, pow-suc 2 (length ops))

-- the early operands are those that aren't late
pub early_mask : (ops : List OperandValue) (m : ℕ) → length ops ≤ max_masked → m < 2 ^ 64 → IsMask is_late_operand ops m →
    IsMask is_early_operand ops (bit_and (18446744073709551615 - m) (1 * 2 ^ length ops % 18446744073709551616 - 1))
early_mask ops m few fits mask = rw (one_shl (length ops) 64 (omega arith)) (record { bits = bits; below = below })
  where
    other : (b : ℕ) → b < 2 → nat_eq (1 - b) 1 ≡ not (nat_eq b 1)
    other b less = grind (arith, nat_tests)

    opposite : (p : OperandPos) → not (stands_late p) ≡ stands_early p
    opposite Early = refl
    opposite Late = refl

    bits : (k : ℕ) → k < length ops → nat_eq (bit_at (bit_and (18446744073709551615 - m) (2 ^ length ops - 1)) k) 1 ≡ is_early_operand (op_at ops k)
    bits k less =
        let bit : bit_at (bit_and (18446744073709551615 - m) (2 ^ length ops - 1)) k ≡ 1 - bit_at m k = omega (
          arith,
          bit_at_and (18446744073709551615 - m) (2 ^ length ops - 1) k,
          bit_at_not w64 m k fits (omega arith),
          bit_at_ones (length ops) k less,
        ) in
        ap (λ n. nat_eq n 1) bit ∙ other (bit_at m k) (bit_at-lt m k) ∙ ap not (mask.bits k less) ∙ opposite (op_at ops k).position

    below : bit_and (18446744073709551615 - m) (2 ^ length ops - 1) < 2 ^ length ops
    below = omega (arith, and_le_r (18446744073709551615 - m) (2 ^ length ops - 1), pow_pos (length ops))

-- an operand's position and kind, in the words of regalloc2_names and of the selections
pub late_by_position : (p : OperandPos) → is_late p ≡ stands_late p
late_by_position Early = refl
late_by_position Late = refl

pub use_by_kind : (k : OperandKind) → not (is_def k) ≡ is_use_kind k
use_by_kind Def = refl
use_by_kind Use = refl
