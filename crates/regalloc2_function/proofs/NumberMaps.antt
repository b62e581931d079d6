-- The words that a map holds.
use Rattle.std.proofs.Common.{ℕ, ◌≡◌, inl, inr, refl, sym, arith, false, cond, nat_eq, eq-eqb, List, [], ◌∷◌, length, Some, None}
use Rattle.std.specs.Prelude.{unwrap_or, IsSome, MatchOption, Option}
use Rattle.std.specs.List.Sorted.{IsPermutation}
use Rattle.std.specs.List.{IsDistinct, AllByRecursion}
use Rattle.std.specs.Map.{lookup, keys_of, set_value}
use Rattle.std.proofs.lemmas.Bool.{cases_eq}
use Rattle.std.proofs.lemmas.List.Sorted.{IsPermutation-map, IsPermutation-sym}
use Rattle.std.proofs.lemmas.Map.Keys.{IsDistinct-IsPermutation}
use Rattle.std.proofs.lemmas.Bool.Decides.{nat_tests}
use Rattle.regalloc2_function.specs.Numbers.{word_of}
use Rattle.regalloc2_function.specs.Inside.NumberWords.{LacksKey, KeysApart}
use Rattle.regalloc2_function.proofs.NumberIndexes.{word_of-lacks}

Lacks-from_all : (k : ℕ) (es : List (ℕ × ℕ)) → AllByRecursion (λ y. nat_eq k y ≡ false) (keys_of es) → LacksKey k es
unfolding LacksKey
Lacks-from_all k [] h = tt
Lacks-from_all k (e ∷ es) h = (h.0, Lacks-from_all k es h.1)

-- entries with distinct keys, as the map has them, are words no two of which have one key
pub KeysApart-from_distinct : (es : List (ℕ × ℕ)) → IsDistinct nat_eq (keys_of es) → KeysApart es
unfolding KeysApart IsDistinct
KeysApart-from_distinct [] h = tt
KeysApart-from_distinct (e ∷ es) h = (Lacks-from_all e.0 es h.0, KeysApart-from_distinct es h.1)

word_of-apart : (es : List (ℕ × ℕ)) → KeysApart es → (k : ℕ) → word_of es k ≡ unwrap_or (lookup (nat_eq k) es) 0
unfolding KeysApart word_of
word_of-apart [] h k = refl
word_of-apart (e ∷ es) h k = elim (cases_eq k e.0) [
  | inl q ↦
      let z : word_of es k ≡ 0 = rw q (word_of-lacks e.0 es h.0) in
      rw (eq-eqb k e.0 q) (omega (arith, z))
  | inr ne ↦
      let f : nat_eq k e.0 ≡ false = grind (arith, nat_tests) in
      rw f (omega (arith, word_of-apart es h.1 k))
]

-- a map's word is what it has at the key
pub word_of-get : (es : List (ℕ × ℕ)) → IsDistinct nat_eq (keys_of es) → (k : ℕ) → word_of es k ≡ unwrap_or (lookup (nat_eq k) es) 0
word_of-get es h k = word_of-apart es (KeysApart-from_distinct es h) k

-- where there are no words, each key's word is 0
pub word_of-empty : (es : List (ℕ × ℕ)) (k : ℕ) → length es ≡ 0 → word_of es k ≡ 0
unfolding word_of
word_of-empty [] k h = refl
word_of-empty (e ∷ es) k h = absurd (omega arith)

-- a key that a map lacks has the word 0
pub word_of-absent : (es : List (ℕ × ℕ)) (k : ℕ) → IsDistinct nat_eq (keys_of es) → lookup (nat_eq k) es ≡ None → word_of es k ≡ 0
word_of-absent es k h none = rw (word_of-get es h k, none) refl

-- a map in which one key was set has the new word there and the old words at other keys
pub word_of-update : (m n : List (ℕ × ℕ)) (key w : ℕ) → IsDistinct nat_eq (keys_of m) → IsDistinct nat_eq (keys_of n)
    → ((q : ℕ) → lookup (nat_eq q) n ≡ cond (nat_eq key q) (Some w) (lookup (nat_eq q) m))
    → (k : ℕ) → word_of n k ≡ cond (nat_eq k key) w (word_of m k)
word_of-update m n key w a b h k = rw (word_of-get n b k, word_of-get m a k, h k) (elim (cases_eq k key) [
  | inl q ↦ rw (eq-eqb k key q, eq-eqb key k (sym q)) refl
  | inr ne ↦
      let f : nat_eq k key ≡ false = grind (arith, nat_tests) in
      let g : nat_eq key k ≡ false = grind (arith, nat_tests) in
      rw (f, g) refl
])

nat_eq-flips : (x y : ℕ) → nat_eq x y ≡ nat_eq y x
nat_eq-flips x y = grind (arith, nat_tests)

-- if a map's keys differ after a pair is put into it, they differed before
pub distinct_before : (m n : List (ℕ × ℕ)) (key w : ℕ) (old : Option ℕ) → IsDistinct nat_eq (keys_of n)
    → MatchOption old (IsPermutation ((key, w) ∷ m) n) (λ _. n ≡ set_value (nat_eq key) m w) → (IsSome old → keys_of n ≡ keys_of m)
    → IsDistinct nat_eq (keys_of m)
unfolding IsDistinct
distinct_before m n key w None d put stay =
    (IsDistinct-IsPermutation nat_eq nat_eq-flips _ _ (IsPermutation-sym _ _ (IsPermutation-map (λ (e : ℕ × ℕ). e.0) _ _ put)) d).1
distinct_before m n key w (Some v) d put stay = rw (stay refl) at d
