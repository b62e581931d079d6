-- The words of a set, inline and not.
use Rattle.std.proofs.Common.{ℕ, ◌≡◌, ◌≢◌, ◌<◌, ◌+◌, ◌*◌, ◌-◌, ◌/◌, ◌%◌, ◌^◌, inl, inr, refl, ap, ◌∙◌, arith, Bool, true, false, cond, nat_eq, eq-eqb, List}
use Rattle.std.proofs.Common.{[], ◌∷◌, ◌++◌, bit_and, bit_or, w64}
use Rattle.std.specs.Int.{bit_at}
use Rattle.std.proofs.lemmas.Bool.{cases_eq}
use Rattle.std.proofs.lemmas.Bool.Decides.{nat_tests}
use Rattle.std.proofs.lemmas.Nat.Bits.{bit_at_set_same, bit_at_set_other, bit_at_clear_same, bit_at_clear_other, bit_at-zero}
use Rattle.regalloc2_function.specs.Numbers.{word_of, has_number}
use Rattle.regalloc2_function.specs.Inside.NumberWords.{LacksKey, KeysApart, KeysInOneOnly}
use Rattle.regalloc2_function.proofs.NumberBits.{word_of-append}

-- a word of the whole
pub word_of-whole : (few many whole : List (ℕ × ℕ)) → few ++ many ≡ whole → (k : ℕ) → word_of whole k ≡ word_of few k + word_of many k
word_of-whole few many whole e k = rw (← e) (word_of-append few many k)

-- one bit of a word
has_set : (s t : List (ℕ × ℕ)) (index w : ℕ) → ((k : ℕ) → word_of t k ≡ cond (nat_eq k (index / 64)) w (word_of s k))
    → (bit : Bool) → nat_eq (bit_at w (index % 64)) 1 ≡ bit → ((j : ℕ) → j < 64 → j ≢ index % 64 → bit_at w j ≡ bit_at (word_of s (index / 64)) j)
    → (i : ℕ) → has_number t i ≡ cond (nat_eq i index) bit (has_number s i)
unfolding has_number
has_set s t index w h bit here others i = rw (h (i / 64)) (elim (cases_eq (i / 64) (index / 64)) [
  | inr ne ↦
      let f : nat_eq (i / 64) (index / 64) ≡ false = grind (arith, nat_tests) in
      let g : nat_eq i index ≡ false = apart i index (λ q. ne (ap (λ z. z / 64) q)) in
      rw (f, g) refl
  | inl q ↦ rw (eq-eqb (i / 64) (index / 64) q) (elim (cases_eq (i % 64) (index % 64)) [
    | inl r ↦ (let same : i ≡ index = omega arith in rw (r, eq-eqb i index same) here)
    | inr ne ↦
        let g : nat_eq i index ≡ false = apart i index (λ q. ne (ap (λ z. z % 64) q)) in
        rw (g, others (i % 64) (omega arith) ne, q) refl
  ])
])
  where
    apart : (a b : ℕ) → a ≢ b → nat_eq a b ≡ false
    apart a b ne = grind (arith, nat_tests)

-- to set the bit of a number in its word is to make it a member and to leave all other numbers as they are
pub has_inserted : (s t : List (ℕ × ℕ)) (index : ℕ) →
    ((k : ℕ) → word_of t k ≡ cond (nat_eq k (index / 64)) (bit_or (word_of s (index / 64)) (1 * 2 ^ (index % 64) % 2 ^ 64)) (word_of s k))
    → (i : ℕ) → has_number t i ≡ cond (nat_eq i index) true (has_number s i)
has_inserted s t index h =
    has_set s t index _ h true (eq-eqb _ _ (bit_at_set_same w64 (word_of s (index / 64)) (index % 64) (omega arith)))
    (λ j small ne. bit_at_set_other w64 (word_of s (index / 64)) (index % 64) (omega arith) j ne)

-- to clear the bit of a number in its word is to take it out and to leave all other numbers as they are
pub has_removed : (s t : List (ℕ × ℕ)) (index : ℕ) →
    ((k : ℕ) → word_of t k ≡ cond (nat_eq k (index / 64)) (bit_and (word_of s (index / 64))
    (18446744073709551615 - 1 * 2 ^ (index % 64) % 18446744073709551616)) (word_of s k))
    → (i : ℕ) → has_number t i ≡ cond (nat_eq i index) false (has_number s i)
has_removed s t index h =
    has_set s t index _ h false (let e = bit_at_clear_same w64 (word_of s (index / 64)) (index % 64) (omega arith) in rw e refl)
    (λ j small ne. bit_at_clear_other w64 (word_of s (index / 64)) (index % 64) (omega arith) j small ne)

-- a number whose word is 0 is no member
pub has_none : (s : List (ℕ × ℕ)) (i : ℕ) → word_of s (i / 64) ≡ 0 → has_number s i ≡ false
unfolding has_number
has_none s i z = rw (z, bit_at-zero (i % 64)) refl

-- the word of a set, inline or not
pub word_first : (few many whole : List (ℕ × ℕ)) (k w : ℕ) → few ++ many ≡ whole → KeysInOneOnly few many → w ≡ word_of few k → w ≢ 0 → w ≡ word_of whole k
word_first few many whole k w e once at ne = rw (word_of-whole few many whole e k) (elim (once k) [
  | inl z ↦ absurd (ne (at ∙ z))
  | inr z ↦ omega (arith, z, at)
])

-- a key whose word in the first list is 0 has in the whole set the word that it has in the second list
pub word_second : (few many whole : List (ℕ × ℕ)) (k v w : ℕ) → few ++ many ≡ whole → v ≡ word_of few k → v ≡ 0 → w ≡ word_of many k → w ≡ word_of whole k
word_second few many whole k v w e at z other = rw (word_of-whole few many whole e k) (omega arith)

-- a word is written among the words of a set
pub whole_written : (few many whole few' many' : List (ℕ × ℕ)) (key w : ℕ) → few ++ many ≡ whole
    → ((k : ℕ) → word_of few' k + word_of many' k ≡ cond (nat_eq k key) w (word_of few k + word_of many k))
    → (k : ℕ) → word_of (few' ++ many') k ≡ cond (nat_eq k key) w (word_of whole k)
whole_written few many whole few' many' key w e h k = rw (word_of-append few' many' k, h k, word_of-whole few many whole e k) refl

-- equal words give equal members
pub has_same : (s t : List (ℕ × ℕ)) → ((k : ℕ) → word_of s k ≡ word_of t k) → (i : ℕ) → has_number s i ≡ has_number t i
unfolding has_number
has_same s t h i = rw (h (i / 64)) refl

-- a copy of the second list with the same words makes up, with the first list, a set of the same words
pub words_same : (few many copy whole : List (ℕ × ℕ)) → few ++ many ≡ whole → ((k : ℕ) → word_of copy k ≡ word_of many k) → (k : ℕ) →
    word_of (few ++ copy) k ≡ word_of whole k
words_same few many copy whole e h k = rw (word_of-append few copy k, h k, word_of-whole few many whole e k) refl

-- what comes before a word has none of its key
Lacks-in : (k : ℕ) (bs rest : List (ℕ × ℕ)) (key word : ℕ) → LacksKey k (bs ++ (key, word) ∷ rest) → nat_eq k key ≡ false
unfolding LacksKey
Lacks-in k [] rest key word h = h.0
Lacks-in k (b ∷ bs) rest key word h = Lacks-in k bs rest key word h.1

once_apart : (bs rest : List (ℕ × ℕ)) (key word : ℕ) → KeysApart (bs ++ (key, word) ∷ rest) → word_of bs key ≡ 0
unfolding KeysApart word_of
once_apart [] rest key word h = refl
once_apart (b ∷ bs) rest key word h =
    let f : nat_eq b.0 key ≡ false = Lacks-in b.0 bs rest key word h.0 in
    let g : nat_eq key b.0 ≡ false = grind (arith, nat_tests) in
    rw g (omega (arith, once_apart bs rest key word h.1))

word_of-one_more : (bs : List (ℕ × ℕ)) (key word k : ℕ) → word_of (bs ++ (key, word) ∷ []) k ≡ word_of bs k + cond (nat_eq k key) word 0
unfolding word_of
word_of-one_more bs key word k = word_of-append bs ((key, word) ∷ []) k ∙ one (word_of bs k) key word k
  where
    one : (r key word k : ℕ) → r + word_of ((key, word) ∷ []) k ≡ r + cond (nat_eq k key) word 0
    one r key word k = omega arith

-- one more word of a list whose keys differ
pub copied_more : (all bs rest : List (ℕ × ℕ)) (key word : ℕ) (old new : ℕ → ℕ) → KeysApart all → all ≡ bs ++ (key, word) ∷ rest
    → ((k : ℕ) → old k ≡ word_of bs k) → ((k : ℕ) → new k ≡ cond (nat_eq k key) word (old k))
    → (k : ℕ) → new k ≡ word_of (bs ++ (key, word) ∷ []) k
copied_more all bs rest key word old new apart e so h k =
    let a : KeysApart (bs ++ (key, word) ∷ rest) = rw e at apart in
    rw (word_of-one_more bs key word k, h k, so k) (step k key word (word_of bs k) (λ q. rw q (once_apart bs rest key word a)))
  where
    step : (k key word r : ℕ) → (k ≡ key → r ≡ 0) → cond (nat_eq k key) word r ≡ r + cond (nat_eq k key) word 0
    step k key word r z = grind (arith, nat_tests)
