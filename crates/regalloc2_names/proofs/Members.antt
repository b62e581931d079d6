-- The members of a word.
use Rattle.std.proofs.Common.{ℕ, zero, suc, ◌≡◌, ◌≢◌, ◌<◌, ◌≤◌, ◌+◌, ◌-◌, ◌*◌, ◌%◌, ◌^◌, refl, arith, bit_and, ◌∙◌, sym, ap, [], ◌∷◌, w64, inl, inr}
use Rattle.std.specs.Prelude.{◌⊎◌, false, nat_eq, slice_index}
use Rattle.std.proofs.lemmas.Bool.{cases_eq}
use Rattle.std.specs.Int.{bit_at, trailing_zeros}
use Rattle.std.proofs.lemmas.Nat.Bits.{bit_at-zero, bit_at-trailing_zeros, bit_at_clear_same, bit_at_clear_other}
use Rattle.regalloc2_names.specs.declared.RegClass.{RegClass}
use Rattle.regalloc2_names.specs.declared.RegClass.TheVariants.{Int, Float, Vector}
use Rattle.regalloc2_names.specs.Register.{Register, class_code, empty_set, has_register, registers_of_words, word_members}

-- the empty set has no register
pub empty_has_none : (r : Register) → has_register empty_set r ≡ false
unfolding has_register
empty_has_none r = in_class r.class r.number
  where
    in_class : (class : RegClass) (n : ℕ) → nat_eq (bit_at (slice_index (0 ∷ 0 ∷ 0 ∷ []) (class_code class)) n) 1 ≡ false
    in_class Int n = ap (λ b. nat_eq b 1) (bit_at-zero n)
    in_class Float n = ap (λ b. nat_eq b 1) (bit_at-zero n)
    in_class Vector n = ap (λ b. nat_eq b 1) (bit_at-zero n)

-- a word without bits has no members
pub members_zero : (class : RegClass) (n k : ℕ) → word_members class k n 0 ≡ []
unfolding word_members
members_zero class zero k = refl
members_zero class (suc n) k = rw (bit_at-zero k) (members_zero class n (k + 1))

members_same : (class : RegClass) (n k v w : ℕ) → ((i : ℕ) → k ≤ i → i < k + n → bit_at v i ≡ bit_at w i) → word_members class k n v ≡ word_members class k n w
unfolding word_members
members_same class zero k v w h = refl
members_same class (suc n) k v w h =
    rw (h k (omega arith) (omega arith), members_same class n (k + 1) v w (λ i low high. h i (omega arith) (omega arith))) refl

-- one number further, where the lowest bit is here or beyond
members_step : (class : RegClass) (n k v w t : ℕ) → ((k ≡ t) ⊎ (k ≢ t)) → k ≤ t → bit_at v t ≡ 1 → bit_at w t ≡ 0
    → ((i : ℕ) → i < t → bit_at v i ≡ 0) → ((i : ℕ) → i < suc (k + n) → i ≢ t → bit_at w i ≡ bit_at v i)
    → (k < t → word_members class (k + 1) n v ≡ record { number = t; class = class } ∷ word_members class (k + 1) n w)
    → word_members class k (suc n) v ≡ record { number = t; class = class } ∷ word_members class k (suc n) w
unfolding word_members
members_step class n k v w t (inl e) low one none below other further =
    let a : bit_at v k ≡ 1 = rw e one in
    let b : bit_at w k ≡ 0 = rw e none in
    rw (a, b, ← e) (ap (λ l. record { number = k; class = class } ∷ l) (members_same class n (k + 1) v w (λ i l h. sym (other i (omega arith) (omega arith)))))
members_step class n k v w t (inr ne) low one none below other further =
    let less : k < t = omega arith in
    let a : bit_at v k ≡ 0 = below k less in
    let b : bit_at w k ≡ 0 = other k (omega arith) ne ∙ a in
    rw (a, b) (further less)

members_at : (class : RegClass) (n k v w t : ℕ) → k ≤ t → t < k + n → bit_at v t ≡ 1 → bit_at w t ≡ 0
    → ((i : ℕ) → i < t → bit_at v i ≡ 0) → ((i : ℕ) → i < k + n → i ≢ t → bit_at w i ≡ bit_at v i)
    → word_members class k n v ≡ record { number = t; class = class } ∷ word_members class k n w
members_at class zero k v w t low high one none below other = absurd (omega arith)
members_at class (suc n) k v w t low high one none below other =
    members_step class n k v w t (cases_eq k t) low one none below (λ i h d. other i (omega arith) d)
    (λ less. members_at class n (k + 1) v w t (omega arith) (omega arith) one none below (λ i h d. other i (omega arith) d))

-- without its lowest bit
pub members_lowest : (class : RegClass) (w : ℕ) → 0 < w → w < 2 ^ 64 →
    word_members class 0 64 w ≡ record { number = trailing_zeros w64 w; class = class } ∷ word_members class 0 64
    (bit_and w (18446744073709551615 - 1 * 2 ^ trailing_zeros w64 w % 18446744073709551616))
members_lowest class w some fits =
    let t = bit_at-trailing_zeros w64 w some fits in
    members_at class 64 0 w _ (trailing_zeros w64 w) (omega arith) t.0 t.1 (bit_at_clear_same w64 w _ t.0) t.2
    (λ i h d. bit_at_clear_other w64 w _ t.0 i h d)

-- what is left of three words, one class at a time
pub left_int : (a b c w n : ℕ) → word_members Int 0 64 a ≡ record { number = n; class = Int } ∷ word_members Int 0 64 w →
    registers_of_words a b c ≡ record { number = n; class = Int } ∷ registers_of_words w b c
unfolding registers_of_words
left_int a b c w n h = rw h refl

-- where the Int word is 0, the first member of the Float word comes first in the set, and then come the others
pub left_float : (a b c w n : ℕ) → a ≡ 0 → word_members Float 0 64 b ≡ record { number = n; class = Float } ∷ word_members Float 0 64 w →
    registers_of_words a b c ≡ record { number = n; class = Float } ∷ registers_of_words a w c
unfolding registers_of_words
left_float a b c w n e h = rw (e, members_zero Int 64 0, h) refl

-- where the Int and Float words are 0, the first member of the Vector word comes first in the set, and then come the others
pub left_vector : (a b c w n : ℕ) → a ≡ 0 → b ≡ 0 → word_members Vector 0 64 c ≡ record { number = n; class = Vector } ∷ word_members Vector 0 64 w →
    registers_of_words a b c ≡ record { number = n; class = Vector } ∷ registers_of_words a b w
unfolding registers_of_words
left_vector a b c w n e f h = rw (e, f, members_zero Int 64 0, members_zero Float 64 0, h) refl

-- a set whose three words are 0 has no members
pub left_none : (a b c : ℕ) → a ≡ 0 → b ≡ 0 → c ≡ 0 → registers_of_words a b c ≡ []
unfolding registers_of_words
left_none a b c e f g = rw (e, f, g, members_zero Int 64 0, members_zero Float 64 0, members_zero Vector 64 0) refl
