-- A union, word by word.
use Rattle.std.proofs.Common.{ℕ, ◌≡◌, ◌≢◌, ◌<◌, ◌+◌, ◌*◌, ◌-◌, ◌/◌, ◌%◌, ◌^◌, inl, inr, refl, sym, ap, ◌∙◌, arith, Bool, true, false, ◌&&◌, ◌||◌}
use Rattle.std.proofs.Common.{cond, nat_eq, nat_lt, eq-eqb, List, [], ◌∷◌, ◌++◌, min, max, bit_and, bit_or, w64}
use Rattle.std.specs.Prelude.{if◌then◌else◌, map}
use Rattle.std.specs.Int.{bit_at}
use Rattle.std.proofs.lemmas.Bool.{cases_eq}
use Rattle.std.proofs.lemmas.Bool.Decides.{nat_tests}
use Rattle.std.proofs.lemmas.Nat.Bits.{bit_at_or, bit_at_and, bit_at_not, bit_at-lt, bit_at-zero, bit_at-trailing_zeros}
use Rattle.std.specs.Int.{trailing_zeros}
use Rattle.regalloc2_function.specs.Numbers.{word_of, has_number, has_bit, in_some_word, numbers_of_set, times_listed, bits_of}
use Rattle.std.proofs.lemmas.Nat.{and_le_l}
use Rattle.std.proofs.Common.{append_assoc}
use Rattle.std.proofs.lemmas.List.{append-nil}
use Rattle.regalloc2_function.proofs.NumberBits.{word_times, times_in-append, bits_of-zero}

-- a bit is set in some word of a list and one word more if it is in some word of the list or in the word more
pub some_more : (ys : List (ℕ × ℕ)) (e : ℕ × ℕ) (i : ℕ) → in_some_word (ys ++ e ∷ []) i ≡ in_some_word ys i || has_bit e i
unfolding in_some_word
some_more [] e i = or_false (has_bit e i)
  where
    or_false : (b : Bool) → b || false ≡ b
    or_false true = refl
    or_false false = refl
some_more (y ∷ ys) e i = rw (some_more ys e i) (or_assoc (has_bit y i) (in_some_word ys i) (has_bit e i))
  where
    or_assoc : (a b c : Bool) → a || (b || c) ≡ a || b || c
    or_assoc true b c = refl
    or_assoc false b c = refl

some_times : (es : List (ℕ × ℕ)) (i : ℕ) → in_some_word es i ≡ nat_lt 0 (times_listed (numbers_of_set es) i)
unfolding in_some_word numbers_of_set times_listed
some_times [] i = refl
some_times (e ∷ es) i =
    rw (times_in-append (map (λ b. e.0 * 64 + b) (bits_of e.1)) (numbers_of_set es) i, word_times e.0 e.1 i, some_times es i)
    (step (nat_eq (i / 64) e.0) (bit_at e.1 (i % 64)) (times_listed (numbers_of_set es) i) (bit_at-lt e.1 (i % 64)))
  where
    step : (t : Bool) (b r : ℕ) → b < 2 → t && nat_eq b 1 || nat_lt 0 r ≡ nat_lt 0 (cond t b 0 + r)
    step true b r less = grind (arith, nat_tests)
    step false b r less = let e : 0 + r ≡ r = omega arith in rw e refl

-- what the words of a set have is what it has
pub some_has : (s : List (ℕ × ℕ)) → ((i : ℕ) → times_listed (numbers_of_set s) i ≡ (if has_number s i then 1 else 0)) → (i : ℕ) →
    in_some_word s i ≡ has_number s i
some_has s h i = some_times s i ∙ rw (h i) (by (has_number s i))
  where
    by : (b : Bool) → nat_lt 0 (if b then 1 else 0) ≡ b
    by true = refl
    by false = refl

or_bit : (a b j : ℕ) → nat_eq (bit_at (bit_or a b) j) 1 ≡ nat_eq (bit_at a j) 1 || nat_eq (bit_at b j) 1
or_bit a b j = rw (bit_at_or a b j) (larger _ _ (bit_at-lt a j) (bit_at-lt b j))
  where
    larger : (a b : ℕ) → a < 2 → b < 2 → nat_eq (max a b) 1 ≡ nat_eq a 1 || nat_eq b 1
    larger a b g h = grind (arith, nat_tests)

-- a word is added
pub has_joined : (s t : List (ℕ × ℕ)) (key word : ℕ) → ((k : ℕ) → word_of t k ≡ cond (nat_eq k key) (bit_or (word_of s key) word) (word_of s k))
    → (i : ℕ) → has_number t i ≡ has_number s i || has_bit (key, word) i
unfolding has_number
has_joined s t key word h i = rw (h (i / 64)) (elim (cases_eq (i / 64) key) [
  | inl q ↦ rw (eq-eqb (i / 64) key q, q) (or_bit (word_of s key) word (i % 64))
  | inr ne ↦
      let f : nat_eq (i / 64) key ≡ false = grind (arith, nat_tests) in
      rw f (or_false _)
])
  where
    or_false : (b : Bool) → b ≡ b || false
    or_false true = refl
    or_false false = refl

-- no bit of a word is new
pub has_already : (s : List (ℕ × ℕ)) (key word : ℕ) → word_of s key < 2 ^ 64 → bit_and word (18446744073709551615 - word_of s key) ≡ 0 → (i : ℕ) →
    has_number s i ≡ has_number s i || has_bit (key, word) i
unfolding has_number
has_already s key word fits none i = elim (cases_eq (i / 64) key) [
  | inr ne ↦
      let f : nat_eq (i / 64) key ≡ false = grind (arith, nat_tests) in
      rw f (or_false _)
  | inl q ↦
      let z : bit_at (bit_and word (18446744073709551615 - word_of s key)) (i % 64) ≡ 0 = rw none (bit_at-zero (i % 64)) in
      let a = bit_at_and word (18446744073709551615 - word_of s key) (i % 64) in
      let b = bit_at_not w64 (word_of s key) (i % 64) fits (omega arith) in
      rw (eq-eqb (i / 64) key q, q) (step (bit_at (word_of s key) (i % 64)) (bit_at word (i % 64)) (bit_at-lt _ _) (bit_at-lt _ _)
      (sym (a ∙ ap (λ z. min (bit_at word (i % 64)) z) b) ∙ z))
]
  where
    or_false : (b : Bool) → b ≡ b || false
    or_false true = refl
    or_false false = refl

    step : (had new : ℕ) → had < 2 → new < 2 → min new (1 - had) ≡ 0 → nat_eq had 1 ≡ nat_eq had 1 || nat_eq new 1
    step had new g h e = grind (arith, nat_tests)

-- a bit of a word is new
pub new_bit : (s : List (ℕ × ℕ)) (key word : ℕ) → word_of s key < 2 ^ 64 → word < 2 ^ 64 → bit_and word (18446744073709551615 - word_of s key) ≢ 0
    → (i : ℕ) × (has_number s i ≡ false) × (has_bit (key, word) i ≡ true)
unfolding has_number
new_bit s key word fits small some =
    let fresh = bit_and word (18446744073709551615 - word_of s key) in
    let low : fresh < 2 ^ 64 = omega (arith, and_le_l word (18446744073709551615 - word_of s key)) in
    let t = bit_at-trailing_zeros w64 fresh (omega arith) low in
    let j : ℕ = trailing_zeros w64 fresh in
    let less : j < 64 = t.0 in
    let a = bit_at_and word (18446744073709551615 - word_of s key) j in
    let b = bit_at_not w64 (word_of s key) j fits less in
    let e : min (bit_at word j) (1 - bit_at (word_of s key) j) ≡ 1 = sym (a ∙ ap (λ z. min (bit_at word j) z) b) ∙ t.1 in
    let key_is : (key * 64 + j) / 64 ≡ key = omega arith in
    let bit_is : (key * 64 + j) % 64 ≡ j = omega arith in (
      key * 64 + j,
      rw (key_is, bit_is) (old (bit_at (word_of s key) j) (bit_at word j) (bit_at-lt _ _) (bit_at-lt _ _) e),
      rw (key_is, bit_is, eq-eqb key key refl) (new (bit_at (word_of s key) j) (bit_at word j) (bit_at-lt _ _) (bit_at-lt _ _) e),
    )
  where
    old : (had new : ℕ) → had < 2 → new < 2 → min new (1 - had) ≡ 1 → nat_eq had 1 ≡ false
    old had new g h e = grind (arith, nat_tests)

    new : (had word : ℕ) → had < 2 → word < 2 → min word (1 - had) ≡ 1 → nat_eq word 1 ≡ true
    new had word g h e = grind (arith, nat_tests)

-- what a walk has given and has left
pub one_on : (all ys it : List (ℕ × ℕ)) (x : ℕ × ℕ) (rest : List (ℕ × ℕ)) → all ≡ ys ++ it → it ≡ x ∷ rest → all ≡ (ys ++ x ∷ []) ++ rest
one_on all ys it x rest e f = e ∙ ap (λ z. ys ++ z) f ∙ sym (append_assoc ys (x ∷ []) rest)

-- a walk over words that has nothing left has given all of them
pub all_given : (all ys it : List (ℕ × ℕ)) → all ≡ ys ++ it → it ≡ [] → ys ≡ all
all_given all ys it e f = sym (e ∙ ap (λ z. ys ++ z) f ∙ append-nil ys)

-- the numbers that are left
pub none_left : (base bits : ℕ) (words : List (ℕ × ℕ)) → bits ≡ 0 → words ≡ [] → map (λ b. base + b) (bits_of bits) ++ numbers_of_set words ≡ []
unfolding numbers_of_set
none_left base bits words z e = rw (bits_of-zero bits z, e) refl

-- where no bits of the last word are left, the numbers of the next word are left, then the numbers of the words after it
pub next_word : (base bits key word : ℕ) (words rest : List (ℕ × ℕ)) (whole : List ℕ) → bits ≡ 0 → words ≡ (key, word) ∷ rest
    → map (λ b. base + b) (bits_of bits) ++ numbers_of_set words ≡ whole → map (λ b. key * 64 + b) (bits_of word) ++ numbers_of_set rest ≡ whole
unfolding numbers_of_set
next_word base bits key word words rest whole z e h = rw (bits_of-zero bits z, e) at h

-- a union grows by a word
pub joined_more : (had init new : ℕ → Bool) (ys : List (ℕ × ℕ)) (e : ℕ × ℕ) → ((i : ℕ) → had i ≡ init i || in_some_word ys i) →
    ((i : ℕ) → new i ≡ had i || has_bit e i)
    → (i : ℕ) → new i ≡ init i || in_some_word (ys ++ e ∷ []) i
joined_more had init new ys e a b i = rw (b i, a i, some_more ys e i) (or_assoc (init i) (in_some_word ys i) (has_bit e i))
  where
    or_assoc : (a b c : Bool) → a || b || c ≡ a || (b || c)
    or_assoc true b c = refl
    or_assoc false b c = refl

-- a bit that is set in some word stays set in some word of the list with one word more
pub some_later : (ys : List (ℕ × ℕ)) (e : ℕ × ℕ) (i : ℕ) → in_some_word ys i ≡ true → in_some_word (ys ++ e ∷ []) i ≡ true
some_later ys e i h = some_more ys e i ∙ rw h refl

-- a bit that is set in a word is set in some word of a list that ends with it
pub some_last : (ys : List (ℕ × ℕ)) (e : ℕ × ℕ) (i : ℕ) → has_bit e i ≡ true → in_some_word (ys ++ e ∷ []) i ≡ true
some_last ys e i h = some_more ys e i ∙ rw h (or_true (in_some_word ys i))
  where
    or_true : (a : Bool) → a || true ≡ true
    or_true true = refl
    or_true false = refl

-- a member that a word brings wasn't one at the start
pub brought : (had init : ℕ → Bool) (ys : List (ℕ × ℕ)) (e : ℕ × ℕ) → ((i : ℕ) → had i ≡ init i || in_some_word ys i) →
    (i : ℕ) × (had i ≡ false) × (has_bit e i ≡ true) → (i : ℕ) × (init i ≡ false) × (in_some_word (ys ++ e ∷ []) i ≡ true)
brought had init ys e joined w =
    (w.0, not_before (init w.0) (in_some_word ys w.0) (sym (joined w.0) ∙ w.1), some_last ys e w.0 w.2)
  where
    not_before : (a b : Bool) → a || b ≡ false → a ≡ false
    not_before true b e = absurd cc
    not_before false b e = refl

-- before any word is joined, a union has just what the set had
pub start : (b : Bool) (i : ℕ) → b ≡ b || in_some_word [] i
unfolding in_some_word
start true i = refl
start false i = refl

some_within : (ys it : List (ℕ × ℕ)) (i : ℕ) → in_some_word ys i ≡ true → in_some_word (ys ++ it) i ≡ true
unfolding in_some_word
some_within [] it i h = absurd cc
some_within (y ∷ ys) it i h = by (has_bit y i) (in_some_word ys i) (in_some_word (ys ++ it) i) h (some_within ys it i)
  where
    by : (a b c : Bool) → a || b ≡ true → (b ≡ true → c ≡ true) → a || c ≡ true
    by true b c h g = refl
    by false b c h g = g h

-- what was joined so far is within the union
pub within_union : (init new : ℕ → Bool) (other ys it : List (ℕ × ℕ)) → other ≡ ys ++ it → ((i : ℕ) → new i ≡ init i || in_some_word ys i)
    → ((i : ℕ) → times_listed (numbers_of_set other) i ≡ (if has_number other i then 1 else 0)) → (i : ℕ) → new i ≡ true → init i || has_number other i ≡ true
within_union init new other ys it e so members i h =
    by (init i) (in_some_word ys i) (has_number other i) (sym (so i) ∙ h)
    (λ y. sym (some_has other members i) ∙ ap (λ es. in_some_word es i) e ∙ some_within ys it i y)
  where
    by : (a b c : Bool) → a || b ≡ true → (b ≡ true → c ≡ true) → a || c ≡ true
    by true b c h g = refl
    by false b c h g = g h
