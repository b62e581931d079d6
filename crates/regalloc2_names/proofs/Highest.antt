-- The highest bit of a word, and the greatest register of a set.
use Rattle.std.proofs.Common.{ℕ, suc, ◌≡◌, ◌<◌, ◌≤◌, ◌+◌, ◌-◌, ◌*◌, ◌/◌, ◌^◌, refl, arith, true, nat_eq, eqb-true, inl, inr}
use Rattle.std.specs.Prelude.{slice_index, ◌⊎◌}
use Rattle.std.specs.Int.{bit_at}
use Rattle.std.specs.Int.Count.{count_leading_zeros, leading_top}
use Rattle.std.proofs.lemmas.Nat.{shr_high}
use Rattle.std.proofs.lemmas.Nat.Bits.{bit_at_above, bit_at-zero}
use Rattle.std.proofs.lemmas.Grind.{pow_more}
use Rattle.std.proofs.lemmas.Bool.{cases_lt}
use Rattle.regalloc2_names.specs.declared.RegClass.{RegClass}
use Rattle.regalloc2_names.specs.declared.RegClass.TheVariants.{Int, Float, Vector}
use Rattle.regalloc2_names.specs.declared.sets.PRegSet.{PRegSet}
use Rattle.regalloc2_names.specs.Listed.{has_register-small}
use Rattle.regalloc2_names.specs.Register.{Register, class_code, has_register}
use Rattle.regalloc2_names.specs.RegisterBits.{bits_of_register}

top_bit : (w j : ℕ) → 2 ^ j ≤ w → w < 2 ^ suc j → bit_at w j ≡ 1
top_bit w j low high =
    let s : suc j ≡ j + 1 = omega arith in
    let twice : w < 2 ^ j * 2 = rw (← pow_more 2 j, ← s) high in
    let whole : 1 * 2 ^ j + (w - 2 ^ j) ≡ w = omega arith in
    let q = shr_high 1 j (w - 2 ^ j) (omega arith) in
    let e : w / 2 ^ j ≡ 1 = rw whole at q in
    rw e refl

-- the index of the highest bit
pub top_at : (w : ℕ) → 0 < w → w < 2 ^ 64 → (bit_at w (63 - count_leading_zeros 64 w) ≡ 1) × ((n : ℕ) → 63 - count_leading_zeros 64 w < n → bit_at w n ≡ 0)
top_at w some fits =
    let (j, sums, low, high) = leading_top 64 w some fits in
    let e : 63 - count_leading_zeros 64 w ≡ j = omega arith in
    (rw e (top_bit w j low high), λ n less. bit_at_above w (suc j) n high (omega arith))

at_most : (w h n : ℕ) → ((m : ℕ) → h < m → bit_at w m ≡ 0) → nat_eq (bit_at w n) 1 ≡ true → n ≤ h
at_most w h n above e = by_order (cases_lt h n)
  where
    by_order : (h < n) ⊎ (n ≤ h) → n ≤ h
    by_order (inl l) = let z = above n l in let one = eqb-true _ _ e in absurd (omega (arith, z, one))
    by_order (inr g) = g

no_bit : (n : ℕ) → nat_eq (bit_at 0 n) 1 ≡ true → ⊥
no_bit n e = let z = bit_at-zero n in let one = eqb-true _ _ e in absurd (omega (arith, z, one))

greatest_in : (s : PRegSet) → ((i : ℕ) → slice_index s.bits i < 18446744073709551616) → (h : ℕ) → ((n : ℕ) → h < n → bit_at (slice_index s.bits 2) n ≡ 0) →
    (c : RegClass) (n : ℕ) → n < 64 →
    nat_eq (bit_at (slice_index s.bits (class_code c)) n) 1 ≡ true → class_code c * 64 + n ≤ 128 + h
greatest_in s fits h above Int n small e = omega arith
greatest_in s fits h above Float n small e = omega arith
greatest_in s fits h above Vector n small e = let l = at_most (slice_index s.bits 2) h n above e in omega arith

-- the greatest register of a set is the highest of the last class that it has one of
pub greatest_vector : (s : PRegSet) → ((i : ℕ) → slice_index s.bits i < 18446744073709551616) → (h : ℕ) →
    ((n : ℕ) → h < n → bit_at (slice_index s.bits 2) n ≡ 0) → (r : Register) → has_register s r ≡ true → bits_of_register r ≤ 128 + h
unfolding has_register
greatest_vector s fits h above r e = greatest_in s fits h above r.class r.number (has_register-small s fits r e) e

below_vector : (s : PRegSet) → slice_index s.bits 2 ≡ 0 → (h : ℕ) → ((n : ℕ) → h < n → bit_at (slice_index s.bits 1) n ≡ 0) → (c : RegClass) (n : ℕ) → n < 64 →
    nat_eq (bit_at (slice_index s.bits (class_code c)) n) 1 ≡ true → class_code c * 64 + n ≤ 64 + h
below_vector s z h above Int n small e = omega arith
below_vector s z h above Float n small e = let l = at_most (slice_index s.bits 1) h n above e in omega arith
below_vector s z h above Vector n small e = absurd (no_bit n (rw z at e))

-- in a set without Vector registers, and without Float ones above h, no member's index is above that of Float h
pub greatest_float : (s : PRegSet) → ((i : ℕ) → slice_index s.bits i < 18446744073709551616) → slice_index s.bits 2 ≡ 0 → (h : ℕ) →
    ((n : ℕ) → h < n → bit_at (slice_index s.bits 1) n ≡ 0) → (r : Register) → has_register s r ≡ true → bits_of_register r ≤ 64 + h
unfolding has_register
greatest_float s fits z h above r e = below_vector s z h above r.class r.number (has_register-small s fits r e) e
