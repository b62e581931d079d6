-- The numbers of a word's bits.
use Rattle.std.proofs.Common.{ℕ, zero, suc, ◌≡◌, ◌≢◌, ◌<◌, ◌≤◌, ◌+◌, ◌-◌, ◌*◌, ◌/◌, ◌%◌, ◌^◌, refl, arith, bit_and, ◌∙◌, sym, ap, List, [], ◌∷◌, ◌++◌}
use Rattle.std.proofs.Common.{append_assoc, w64, cond, Bool, true, false, nat_eq, eq-eqb, inl, inr}
use Rattle.std.specs.Prelude.{◌⊎◌, map, if◌then◌else◌}
use Rattle.std.proofs.lemmas.Bool.{cases_eq, cases_lt}
use Rattle.std.proofs.lemmas.Bool.Decides.{nat_tests}
use Rattle.std.specs.Int.{bit_at, trailing_zeros}
use Rattle.std.proofs.lemmas.Nat.Bits.{bit_at-zero, bit_at-lt, bit_at_above, bit_at-trailing_zeros, bit_at_clear_same, bit_at_clear_other}
use Rattle.regalloc2_function.specs.Numbers.{bits_from, bits_of, times_listed, RisesFrom, numbers_of_set, word_of, has_number}
use Rattle.regalloc2_function.specs.Inside.NumberWords.{KeysApart, KeysInOneOnly}
use Rattle.regalloc2_function.proofs.NumberIndexes.{word_of-lacks}

bits_zero : (n k : ℕ) → bits_from k n 0 ≡ []
unfolding bits_from
bits_zero zero k = refl
bits_zero (suc n) k = rw (bit_at-zero k) (bits_zero n (k + 1))

-- a word that is 0 has no bits set
pub bits_of-zero : (w : ℕ) → w ≡ 0 → bits_of w ≡ []
bits_of-zero w e = rw e (bits_zero 64 0)

bits_same : (n k v w : ℕ) → ((i : ℕ) → k ≤ i → i < k + n → bit_at v i ≡ bit_at w i) → bits_from k n v ≡ bits_from k n w
unfolding bits_from
bits_same zero k v w h = refl
bits_same (suc n) k v w h =
    rw (h k (omega arith) (omega arith), bits_same n (k + 1) v w (λ i low high. h i (omega arith) (omega arith))) refl

-- one number further, where the lowest bit is here or beyond
bits_step : (n k v w t : ℕ) → ((k ≡ t) ⊎ (k ≢ t)) → k ≤ t → bit_at v t ≡ 1 → bit_at w t ≡ 0
    → ((i : ℕ) → i < t → bit_at v i ≡ 0) → ((i : ℕ) → i < suc (k + n) → i ≢ t → bit_at w i ≡ bit_at v i)
    → (k < t → bits_from (k + 1) n v ≡ t ∷ bits_from (k + 1) n w)
    → bits_from k (suc n) v ≡ t ∷ bits_from k (suc n) w
unfolding bits_from
bits_step n k v w t (inl e) low one none below other more =
    let a : bit_at v k ≡ 1 = rw e one in
    let b : bit_at w k ≡ 0 = rw e none in
    rw (a, b, ← e) (ap (λ l. k ∷ l) (bits_same n (k + 1) v w (λ i l h. sym (other i (omega arith) (omega arith)))))
bits_step n k v w t (inr ne) low one none below other more =
    let less : k < t = omega arith in
    let a : bit_at v k ≡ 0 = below k less in
    let b : bit_at w k ≡ 0 = other k (omega arith) ne ∙ a in
    rw (a, b) (more less)

bits_at : (n k v w t : ℕ) → k ≤ t → t < k + n → bit_at v t ≡ 1 → bit_at w t ≡ 0
    → ((i : ℕ) → i < t → bit_at v i ≡ 0) → ((i : ℕ) → i < k + n → i ≢ t → bit_at w i ≡ bit_at v i)
    → bits_from k n v ≡ t ∷ bits_from k n w
bits_at zero k v w t low high one none below other = absurd (omega arith)
bits_at (suc n) k v w t low high one none below other =
    bits_step n k v w t (cases_eq k t) low one none below (λ i h d. other i (omega arith) d)
    (λ less. bits_at n (k + 1) v w t (omega arith) (omega arith) one none below (λ i h d. other i (omega arith) d))

-- without its lowest bit
pub bits_lowest : (w : ℕ) → 0 < w → w < 2 ^ 64 →
    bits_of w ≡ trailing_zeros w64 w ∷ bits_of (bit_and w (18446744073709551615 - 1 * 2 ^ trailing_zeros w64 w % 18446744073709551616))
bits_lowest w some fits =
    let t = bit_at-trailing_zeros w64 w some fits in
    bits_at 64 0 w _ (trailing_zeros w64 w) (omega arith) t.0 t.1 (bit_at_clear_same w64 w _ t.0) t.2
    (λ i h d. bit_at_clear_other w64 w _ t.0 i h d)

-- numbers that rise from a bound rise from a lower bound
rises-lower : (l low : ℕ) (xs : List ℕ) → l ≤ low → RisesFrom low xs → RisesFrom l xs
unfolding RisesFrom
rises-lower l low [] le h = tt
rises-lower l low (x ∷ xs) le h = (omega (arith, h.0), h.1)

rises_if : (b : Bool) (k : ℕ) (xs : List ℕ) → RisesFrom (k + 1) xs → RisesFrom k (cond b (k ∷ xs) xs)
unfolding RisesFrom
rises_if true k xs h = (omega arith, h)
rises_if false k xs h = rises-lower k (k + 1) xs (omega arith) h

-- the set bits of a word, listed from bit k on, rise and are at least k
pub bits_rise : (n k w : ℕ) → RisesFrom k (bits_from k n w)
unfolding bits_from RisesFrom
bits_rise zero k w = tt
bits_rise (suc n) k w = rises_if (nat_eq (bit_at w k) 1) k (bits_from (k + 1) n w) (bits_rise n (k + 1) w)

-- how often one is listed
times_if : (b : Bool) (k i : ℕ) (xs : List ℕ) → times_listed (cond b (k ∷ xs) xs) i ≡ cond b (cond (nat_eq k i) 1 0) 0 + times_listed xs i
unfolding times_listed
times_if true k i xs = refl
times_if false k i xs = omega arith

times_low : (n k w i : ℕ) → i < k → times_listed (bits_from k n w) i ≡ 0
unfolding bits_from times_listed
times_low zero k w i less = refl
times_low (suc n) k w i less =
    times_if (nat_eq (bit_at w k) 1) k i (bits_from (k + 1) n w) ∙ apart (nat_eq (bit_at w k) 1) k i _ less (times_low n (k + 1) w i (omega arith))
  where
    apart : (b : Bool) (k i r : ℕ) → i < k → r ≡ 0 → cond b (cond (nat_eq k i) 1 0) 0 + r ≡ 0
    apart true k i r less e = grind (arith, nat_tests)
    apart false k i r less e = omega arith

times_high : (n k w i : ℕ) → k + n ≤ i → times_listed (bits_from k n w) i ≡ 0
unfolding bits_from times_listed
times_high zero k w i less = refl
times_high (suc n) k w i less =
    times_if (nat_eq (bit_at w k) 1) k i (bits_from (k + 1) n w) ∙ apart (nat_eq (bit_at w k) 1) k i _ (omega arith) (times_high n (k + 1) w i (omega arith))
  where
    apart : (b : Bool) (k i r : ℕ) → k < i → r ≡ 0 → cond b (cond (nat_eq k i) 1 0) 0 + r ≡ 0
    apart true k i r less e = grind (arith, nat_tests)
    apart false k i r less e = omega arith

times_within : (n k w i : ℕ) → k ≤ i → i < k + n → times_listed (bits_from k n w) i ≡ bit_at w i
unfolding bits_from times_listed
times_within zero k w i low high = absurd (omega arith)
times_within (suc n) k w i low high =
    times_if (nat_eq (bit_at w k) 1) k i (bits_from (k + 1) n w) ∙ elim (cases_eq k i) [
      | inl e ↦ here k i (bit_at w k) (bit_at w i) _ e (ap (bit_at w) e) (bit_at-lt w k) (times_low n (k + 1) w i (omega arith))
      | inr ne ↦ beyond (nat_eq (bit_at w k) 1) k i _ (bit_at w i) ne (times_within n (k + 1) w i (omega arith) (omega arith))
    ]
  where
    here : (k i a b r : ℕ) → k ≡ i → a ≡ b → a < 2 → r ≡ 0 → cond (nat_eq a 1) (cond (nat_eq k i) 1 0) 0 + r ≡ b
    here k i a b r e f less z = grind (arith, nat_tests)

    beyond : (b : Bool) (k i r a : ℕ) → k ≢ i → r ≡ a → cond b (cond (nat_eq k i) 1 0) 0 + r ≡ a
    beyond true k i r a ne e = grind (arith, nat_tests)
    beyond false k i r a ne e = omega arith

-- among the set bits of a 64-bit word, a number is listed once if its bit is set, and else not
pub bits_of-times : (w i : ℕ) → w < 2 ^ 64 → times_listed (bits_of w) i ≡ bit_at w i
bits_of-times w i fits = elim (cases_lt i 64) [
  | inl less ↦ times_within 64 0 w i (omega arith) (omega arith)
  | inr more ↦ times_high 64 0 w i (omega arith) ∙ sym (bit_at_above w 64 i fits more)
]

-- the numbers of a word with its key
times_map_low : (base i : ℕ) (xs : List ℕ) → i < base → times_listed (map (λ b. base + b) xs) i ≡ 0
unfolding times_listed
times_map_low base i [] less = refl
times_map_low base i (x ∷ xs) less = step base i x _ less (times_map_low base i xs less)
  where
    step : (base i x r : ℕ) → i < base → r ≡ 0 → cond (nat_eq (base + x) i) 1 0 + r ≡ 0
    step base i x r less e = grind (arith, nat_tests)

times_map : (base i : ℕ) (xs : List ℕ) → base ≤ i → times_listed (map (λ b. base + b) xs) i ≡ times_listed xs (i - base)
unfolding times_listed
times_map base i [] le = refl
times_map base i (x ∷ xs) le = step base i x _ _ le (times_map base i xs le)
  where
    step : (base i x r s : ℕ) → base ≤ i → r ≡ s → cond (nat_eq (base + x) i) 1 0 + r ≡ cond (nat_eq x (i - base)) 1 0 + s
    step base i x r s le e = grind (arith, nat_tests)

-- the members of a word under a key have a number once if it belongs to that key and its bit in the word is set, and else not
pub word_times : (key w i : ℕ) → times_listed (map (λ b. key * 64 + b) (bits_of w)) i ≡ cond (nat_eq (i / 64) key) (bit_at w (i % 64)) 0
word_times key w i = elim (cases_lt i (key * 64)) [
  | inl less ↦ times_map_low (key * 64) i (bits_of w) less ∙ off i key (bit_at w (i % 64)) (λ e. absurd (omega arith))
  | inr more ↦ times_map (key * 64) i (bits_of w) more ∙ elim (cases_lt (i - key * 64) 64) [
    | inr beyond ↦ times_high 64 0 w (i - key * 64) (omega arith) ∙ off i key (bit_at w (i % 64)) (λ e. absurd (omega arith))
    | inl within ↦
        let e : i / 64 ≡ key = omega arith in
        let f : i - key * 64 ≡ i % 64 = omega arith in
        times_within 64 0 w (i - key * 64) (omega arith) (omega arith) ∙ rw (eq-eqb (i / 64) key e, f) refl
  ]
]
  where
    off : (i key b : ℕ) → (i / 64 ≢ key) → 0 ≡ cond (nat_eq (i / 64) key) b 0
    off i key b ne = grind (arith, nat_tests)

-- a number is as often in two lists, one after the other, as in each of them together
pub times_in-append : (xs ys : List ℕ) (i : ℕ) → times_listed (xs ++ ys) i ≡ times_listed xs i + times_listed ys i
unfolding times_listed
times_in-append [] ys i = omega arith
times_in-append (x ∷ xs) ys i = omega (arith, times_in-append xs ys i)

-- a key's word in two lists, one after the other, is the sum of its words in each of them
pub word_of-append : (es fs : List (ℕ × ℕ)) (k : ℕ) → word_of (es ++ fs) k ≡ word_of es k + word_of fs k
unfolding word_of
word_of-append [] fs k = omega arith
word_of-append (e ∷ es) fs k = omega (arith, word_of-append es fs k)

-- the members of two lists of words are the members of the first, then the members of the second
pub numbers_of-append : (es fs : List (ℕ × ℕ)) → numbers_of_set (es ++ fs) ≡ numbers_of_set es ++ numbers_of_set fs
unfolding numbers_of_set
numbers_of-append [] fs = refl
numbers_of-append (e ∷ es) fs = rw (numbers_of-append es fs)
    (sym (append_assoc (map (λ b. e.0 * 64 + b) (bits_of e.1)) (numbers_of_set es) (numbers_of_set fs)))

-- of words whose keys differ
pub numbers_times : (es : List (ℕ × ℕ)) (i : ℕ) → KeysApart es → times_listed (numbers_of_set es) i ≡ bit_at (word_of es (i / 64)) (i % 64)
unfolding numbers_of_set word_of KeysApart times_listed
numbers_times [] i h = sym (bit_at-zero (i % 64))
numbers_times (e ∷ es) i h =
    times_in-append (map (λ b. e.0 * 64 + b) (bits_of e.1)) (numbers_of_set es) i ∙ rw (word_times e.0 e.1 i, numbers_times es i h.1)
    (elim (cases_eq (i / 64) e.0) [
      | inl q ↦
          let z : word_of es (i / 64) ≡ 0 = rw q (word_of-lacks e.0 es h.0) in
          rw (eq-eqb (i / 64) e.0 q, z, bit_at-zero (i % 64)) (let a : e.1 + 0 ≡ e.1 = omega arith in rw a (omega arith))
      | inr ne ↦ off (i / 64) e.0 _ _ _ ne
    ])
  where
    off : (k key w r j : ℕ) → k ≢ key → cond (nat_eq k key) (bit_at w j) 0 + bit_at r j ≡ bit_at (cond (nat_eq k key) w 0 + r) j
    off k key w r j ne = let f : nat_eq k key ≡ false = grind (arith, nat_tests) in rw f (let a : 0 + r ≡ r = omega arith in rw a (omega arith))

-- a bit of two words of which one is zero
pub bit_of_either : (a b j : ℕ) → ((a ≡ 0) ⊎ (b ≡ 0)) → bit_at (a + b) j ≡ bit_at a j + bit_at b j
bit_of_either a b j (inl e) = rw (e, bit_at-zero j) (let z : 0 + b ≡ b = omega arith in rw z (omega arith))
bit_of_either a b j (inr e) = rw (e, bit_at-zero j) (let z : a + 0 ≡ a = omega arith in rw z (omega arith))

bit_is_test : (b : ℕ) → b < 2 → b ≡ (if nat_eq b 1 then 1 else 0)
bit_is_test b less = grind (arith, nat_tests)

-- where keys differ in each of two lists of words, and no key has a word in both, the words list each member of the set once
pub lists_members : (few many : List (ℕ × ℕ)) → KeysApart few → KeysApart many → KeysInOneOnly few many → (i : ℕ) →
    times_listed (numbers_of_set (few ++ many)) i ≡ (if has_number (few ++ many) i then 1 else 0)
unfolding has_number
lists_members few many a b once i =
    rw (numbers_of-append few many, times_in-append (numbers_of_set few) (numbers_of_set many) i, numbers_times few i a, numbers_times many i b)
    (sym (bit_of_either (word_of few (i / 64)) (word_of many (i / 64)) (i % 64) (once (i / 64)))
    ∙ ap (λ w. bit_at w (i % 64)) (sym (word_of-append few many (i / 64))) ∙ bit_is_test _ (bit_at-lt (word_of (few ++ many) (i / 64)) (i % 64)))
