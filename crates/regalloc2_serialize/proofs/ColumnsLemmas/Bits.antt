-- Sets of registers from words of bits.
use Rattle.std.proofs.Common.{◌≡◌, ◌∙◌, ℕ, zero, suc, ◌+◌, ◌*◌, ◌/◌, ◌%◌, ◌^◌, ◌<◌, ◌≤◌, true, false, ◌&&◌, List, [], ◌∷◌, sym, ap, arith, inl, inr, ◌⊎◌, ◌-◌, refl}
use Rattle.std.specs.Prelude.{nat_eq, nat_lt, slice_index}
use Rattle.std.specs.Int.{bit_at}
use Rattle.std.proofs.lemmas.Bool.{cases_lt}
use Rattle.std.proofs.lemmas.Bool.Decides.{nat_tests}
use Rattle.std.proofs.Math.Nat.{pow-zero, pow-succ', mul_left_comm}
use Rattle.std.proofs.lemmas.Nat.Bits.{bit_at-suc, bit_at_lowest, bit_at_above}
use Rattle.regalloc2_names.specs.declared.RegClass.{RegClass}
use Rattle.regalloc2_names.specs.declared.RegClass.TheVariants.{Int, Float, Vector}
use Rattle.regalloc2_names.specs.Register.{Register}
use Rattle.regalloc2_names.specs.RegisterBits.{bits_of_register, words_have}
use Rattle.regalloc2_serialize.specs.Flat.Columns.Value.{is_bit_set, long_at}

halved : (a m n : ℕ) → n ≡ 2 * m → (a + n) / 2 ≡ a / 2 + m
halved a m n e = omega (arith, e)

doubled : (b k : ℕ) → b * 2 ^ suc k ≡ 2 * (b * 2 ^ k)
doubled b k = ap (λ (n : ℕ). b * n) (pow-succ' 2 k) ∙ mul_left_comm b 2 (2 ^ k)

even : (a m n : ℕ) → n ≡ 2 * m → (a + n) % 2 ≡ a % 2
even a m n e = omega (arith, e)

-- the bits of a number of which the lower ones are another's
low-bits : (k i a b : ℕ) → i < k → bit_at (a + b * 2 ^ k) i ≡ bit_at a i
low-bits zero i a b less = absurd (omega arith)
low-bits (suc k) zero a b less =
    bit_at_lowest (a + b * 2 ^ suc k) ∙ even a (b * 2 ^ k) (b * 2 ^ suc k) (doubled b k) ∙ sym (bit_at_lowest a)
low-bits (suc k) (suc i) a b less =
    bit_at-suc (a + b * 2 ^ suc k) i ∙ ap (λ (n : ℕ). bit_at n i) (halved a (b * 2 ^ k) (b * 2 ^ suc k) (doubled b k))
    ∙ low-bits k i (a / 2) b (omega arith) ∙ sym (bit_at-suc a i)

high-bits : (k i a b : ℕ) → a < 2 ^ k → bit_at (a + b * 2 ^ k) (k + i) ≡ bit_at b i
high-bits zero i a b less =
    ap (λ (n : ℕ). bit_at (a + b * 2 ^ 0) n) (start i) ∙ ap (λ (n : ℕ). bit_at n i) (one a b (2 ^ 0) (pow-zero 2) less)
  where
    start : (i : ℕ) → 0 + i ≡ i
    start i = omega arith

    one : (a b p : ℕ) → p ≡ 1 → a < p → a + b * p ≡ b
    one a b p e less = let none : a ≡ 0 = omega (arith, e, less) in ap (λ (q : ℕ). a + b * q) e ∙ omega (arith, none)
high-bits (suc k) i a b less =
    ap (λ (n : ℕ). bit_at (a + b * 2 ^ suc k) n) (shift k i) ∙ bit_at-suc (a + b * 2 ^ suc k) (k + i) ∙ ap (λ (n : ℕ). bit_at n (k + i)) (halved a (b * 2 ^ k) (b * 2 ^ suc k) (doubled b k))
    ∙ high-bits k i (a / 2) b (half a (2 ^ k) (2 ^ suc k) (power k) less)
  where
    shift : (k i : ℕ) → suc k + i ≡ suc (k + i)
    shift k i = omega arith

    half : (a p q : ℕ) → q ≡ 2 * p → a < q → a / 2 < p
    half a p q e less = omega (arith, e, less)

    power : (k : ℕ) → 2 ^ suc k ≡ 2 * 2 ^ k
    power k = pow-succ' 2 k

-- the bits of a class's registers, in two words of 32 bits
class-bits : (words : List ℕ) (c n : ℕ) → slice_index words (2 * c) < 2 ^ 32 → slice_index words (2 * c + 1) < 2 ^ 32 →
    nat_eq (bit_at (long_at words c) n) 1 ≡ (nat_lt n 64 && is_bit_set words (c * 64 + n))
class-bits words c n low high = pick (cases_lt n 32) (cases_lt n 64)
  where
    inside : (n : ℕ) → n < 64 → nat_lt n 64 ≡ true
    inside n less = grind (arith, nat_tests)

    outside : (n : ℕ) → 64 ≤ n → nat_lt n 64 ≡ false
    outside n more = grind (arith, nat_tests)

    small : (a b : ℕ) → a < 2 ^ 32 → b < 2 ^ 32 → a + b * 2 ^ 32 < 2 ^ 64
    small a b la lb = omega (arith, la, lb)

    pick : (n < 32) ⊎ (32 ≤ n) → (n < 64) ⊎ (64 ≤ n) → nat_eq (bit_at (long_at words c) n) 1 ≡ (nat_lt n 64 && is_bit_set words (c * 64 + n))
    pick (inl less) any =
        let word : (c * 64 + n) / 32 ≡ 2 * c = omega (arith, less) in
        let place : (c * 64 + n) % 32 ≡ n = omega (arith, less) in
        rw (inside n (omega (arith, less)), word, place)
        (ap (λ (b : ℕ). nat_eq b 1) (low-bits 32 n (slice_index words (2 * c)) (slice_index words (2 * c + 1)) less))
    pick (inr more) (inl less) =
        let word : (c * 64 + n) / 32 ≡ 2 * c + 1 = omega (arith, more, less) in
        let place : (c * 64 + n) % 32 ≡ n - 32 = omega (arith, more, less) in
        let sum : n ≡ 32 + (n - 32) = omega (arith, more) in
        rw (inside n less, word, place)
        (ap (λ (b : ℕ). nat_eq b 1) (ap (λ (k : ℕ). bit_at (long_at words c) k) sum
        ∙ high-bits 32 (n - 32) (slice_index words (2 * c)) (slice_index words (2 * c + 1)) low))
    pick (inr more) (inr past) =
        let none : bit_at (long_at words c) n ≡ 0 =
        bit_at_above (long_at words c) 64 n (small (slice_index words (2 * c)) (slice_index words (2 * c + 1)) low high) past in
        rw (outside n past, none) refl

-- three numbers that are six words
pub has-bits : (words : List ℕ) (a b c : ℕ) → ((k : ℕ) → k < 6 → slice_index words k < 2 ^ 32) → a ≡ long_at words 0 → b ≡ long_at words 1 →
    c ≡ long_at words 2 → (r : Register) → words_have (a ∷ b ∷ c ∷ []) r ≡ (nat_lt r.number 64 && is_bit_set words (bits_of_register r))
has-bits words a b c small ea eb ec r = pick r.class refl
  where
    pick : (class : RegClass) → r.class ≡ class → words_have (a ∷ b ∷ c ∷ []) r ≡ (nat_lt r.number 64 && is_bit_set words (bits_of_register r))
    pick Int e = rw (e, ea) (class-bits words 0 r.number (small 0 (omega arith)) (small 1 (omega arith)))
    pick Float e = rw (e, eb) (class-bits words 1 r.number (small 2 (omega arith)) (small 3 (omega arith)))
    pick Vector e = rw (e, ec) (class-bits words 2 r.number (small 4 (omega arith)) (small 5 (omega arith)))
