-- Sets that are kept: of two members, or of any.
use Rattle.std.proofs.Common.{inl, inr, subst, ℕ, ◌≡◌, ◌<◌, arith, Bool, true, false, cond, nat_eq, eq-eqb, refl, sym, ap, ◌∙◌}
use Rattle.std.proofs.Common.{List, [], ◌∷◌, ◌++◌, bit_or}
use Rattle.std.proofs.Common.{length, get_or, zero, suc}
use Rattle.std.specs.Prelude.{◌/◌, ◌%◌, ◌^◌, ◌&&◌, ◌||◌, if◌then◌else◌, Option, Some}
use Rattle.std.specs.Int.{bit_at}
use Rattle.std.specs.Bool.{OnTrue, OnFalse}
use Rattle.std.proofs.lemmas.Bool.{cases_eq, cases_lt, eqb-true, ne_eqb}
use Rattle.std.proofs.Math.Bool.{or-false, or-true}
use Rattle.std.proofs.lemmas.Nat.Bits.{bit_at-pow_same, bit_at-pow_other, bit_at-zero, bit_at_or}
use Rattle.regalloc2_function.specs.Numbers.{NumberSet, has_number, word_of, times_listed}
use Rattle.regalloc2_checker_sets.specs.EntrySets.{has_bits, set_of_one, set_of_two, set_of_kept, ListsBits, IsLess}
use Rattle.regalloc2_checker_sets.proofs.AllSets.{has-of_one, lists-one}
use Rattle.regalloc2_checker_sets.proofs.Bits.{bits-is, bits-out, changed-is, within-and}
use Rattle.regalloc2_checker_sets.proofs.Lone.{single-is, without-same}

-- the bit of a number
bit-own : (y a : ℕ) → y ≡ a → bit_at (2 ^ (a % 64)) (y % 64) ≡ 1
bit-own y a p = ap (λ n. bit_at (2 ^ (a % 64)) (n % 64)) p ∙ bit_at-pow_same (a % 64)

-- the bit of another number of the same word
bit-other : (y a : ℕ) → (y ≡ a → ⊥) → y / 64 ≡ a / 64 → bit_at (2 ^ (a % 64)) (y % 64) ≡ 0
bit-other y a n h = bit_at-pow_other (a % 64) (y % 64) (λ q. n (omega arith))

-- the bits of two numbers of one word
two-bits : (a b y : ℕ) → a / 64 ≡ b / 64 → y / 64 ≡ a / 64 →
    nat_eq (bit_at (bit_or (2 ^ (a % 64)) (2 ^ (b % 64))) (y % 64)) 1 ≡ (nat_eq y a || nat_eq y b)
two-bits a b y e h = ap (λ n. nat_eq n 1) (bit_at_or (2 ^ (a % 64)) (2 ^ (b % 64)) (y % 64)) ∙ elim (cases_eq y a) [
  | inl p ↦ elim (cases_eq y b) [
    | inl q ↦ rw (bit-own y a p, bit-own y b q, eq-eqb y a p) refl
    | inr m ↦ rw (bit-own y a p, bit-other y b m (h ∙ e), eq-eqb y a p) refl
  ]
  | inr n ↦ elim (cases_eq y b) [
    | inl q ↦ rw (bit-other y a n h, bit-own y b q, ne_eqb y a n, eq-eqb y b q) refl
    | inr m ↦ rw (bit-other y a n h, bit-other y b m (h ∙ e), ne_eqb y a n, ne_eqb y b m) refl
  ]
]

-- one word, or two
word-one : (k w j : ℕ) → word_of ((k, w) ∷ []) j ≡ cond (nat_eq j k) w 0
unfolding word_of
word-one k w j = omega arith

word-first : (a b j : ℕ) → (j ≡ b / 64 → ⊥) → word_of (set_of_one a ++ set_of_one b) j ≡ word_of (set_of_one a) j
unfolding word_of
word-first a b j n = let z : ◌≡◌ {A = ℕ} (cond (nat_eq j (b / 64)) (2 ^ (b % 64)) 0) 0 = ap (λ t. cond t (2 ^ (b % 64)) 0) (ne_eqb j (b / 64) n) in omega arith

word-second : (a b j : ℕ) → (j ≡ a / 64 → ⊥) → word_of (set_of_one a ++ set_of_one b) j ≡ word_of (set_of_one b) j
unfolding word_of
word-second a b j n = let z : ◌≡◌ {A = ℕ} (cond (nat_eq j (a / 64)) (2 ^ (a % 64)) 0) 0 = ap (λ t. cond t (2 ^ (a % 64)) 0) (ne_eqb j (a / 64) n) in omega arith

-- two numbers of one word
same-word : (a b y : ℕ) → a / 64 ≡ b / 64 → has_number ((a / 64, bit_or (2 ^ (a % 64)) (2 ^ (b % 64))) ∷ []) y ≡ (nat_eq y a || nat_eq y b)
unfolding has_number
same-word a b y e =
    ap (λ w. nat_eq (bit_at w (y % 64)) 1) (word-one (a / 64) (bit_or (2 ^ (a % 64)) (2 ^ (b % 64))) (y / 64)) ∙ elim (cases_eq (y / 64) (a / 64)) [
      | inl h ↦ ap (λ t. nat_eq (bit_at (cond t (bit_or (2 ^ (a % 64)) (2 ^ (b % 64))) 0) (y % 64)) 1) (eq-eqb (y / 64) (a / 64) h) ∙ two-bits a b y e h
      | inr n ↦ rw (ne_eqb (y / 64) (a / 64) n, bit_at-zero (y % 64), ne_eqb y a (λ q. n (omega arith)), ne_eqb y b (λ q. n (omega arith))) refl
    ]

-- two numbers of two words
two-words : (a b y : ℕ) → (a / 64 ≡ b / 64 → ⊥) → has_number (set_of_one a ++ set_of_one b) y ≡ (nat_eq y a || nat_eq y b)
unfolding has_number
two-words a b y n = elim (cases_eq (y / 64) (b / 64)) [
  | inl h ↦
      ap (λ w. nat_eq (bit_at w (y % 64)) 1) (word-second a b (y / 64) (λ q. n (omega arith))) ∙ has-of_one b y
      ∙ sym (ap (λ t. t || nat_eq y b) (ne_eqb y a (λ q. n (omega arith))))
  | inr m ↦
      ap (λ w. nat_eq (bit_at w (y % 64)) 1) (word-first a b (y / 64) m) ∙ has-of_one a y
      ∙ sym (ap (λ t. nat_eq y a || t) (ne_eqb y b (λ q. m (omega arith))) ∙ or-false (nat_eq y a))
]

two-has : (a b y : ℕ) → has_number (set_of_two a b) y ≡ (nat_eq y a || nat_eq y b)
unfolding set_of_two
two-has a b y = elim (cases_eq (a / 64) (b / 64)) [
  | inl e ↦ ap (λ t. has_number (cond t ((a / 64, bit_or (2 ^ (a % 64)) (2 ^ (b % 64))) ∷ []) (set_of_one a ++ set_of_one b)) y) (eq-eqb (a / 64) (b / 64) e)
      ∙ same-word a b y e
  | inr n ↦ ap (λ t. has_number (cond t ((a / 64, bit_or (2 ^ (a % 64)) (2 ^ (b % 64))) ∷ []) (set_of_one a ++ set_of_one b)) y) (ne_eqb (a / 64) (b / 64) n)
      ∙ two-words a b y n
]

-- a set of two has these bits
pub two-is : (a b y : ℕ) → a < 4294967296 → b < 4294967296 → has_bits (set_of_two a b) y ≡ (nat_eq y a || nat_eq y b)
two-is a b y small little = elim (cases_lt y 4294967296) [
  | inl l ↦ bits-is (set_of_two a b) y l ∙ two-has a b y
  | inr g ↦ bits-out (set_of_two a b) y g ∙ sym (rw (ne_eqb y a (λ q. (omega arith)), ne_eqb y b (λ q. (omega arith))) refl)
]

-- a kept set without another has its two numbers
pub kept-two : (a b : ℕ) (many : List NumberSet) (s : NumberSet) → set_of_kept a b many ≡ s → length many ≡ 0 → a < 4294967296 → b < 4294967296 →
    (y : ℕ) → has_bits s y ≡ (nat_eq y a || nat_eq y b)
unfolding set_of_kept
kept-two a b [] s e l small little y = ap (λ (x : NumberSet). has_bits x y) (sym e) ∙ two-is a b y small little
kept-two a b (z ∷ rest) s e l small little y = absurd (omega arith)

-- a kept set with another set is that set
pub kept-many : (a b : ℕ) (many : List NumberSet) (s x : NumberSet) → set_of_kept a b many ≡ s → 0 < length many → x ≡ get_or many 0 x → s ≡ x
unfolding set_of_kept
kept-many a b [] s x e l h = absurd (omega arith)
kept-many a b (z ∷ rest) s x e l h = sym e ∙ sym h

pub kept-pushed : (a b : ℕ) (many old : List NumberSet) (s : NumberSet) → many ≡ old ++ s ∷ [] → old ≡ [] → set_of_kept a b many ≡ s
unfolding set_of_kept
kept-pushed a b many old s e n = ap (λ (l : List NumberSet). set_of_kept a b l) (e ∙ ap (λ (l : List NumberSet). l ++ s ∷ []) n)

-- a list that isn't empty
pub not-none : (n : ℕ) → false ≡ nat_eq n 0 → 0 < n
not-none zero h = absurd cc
not-none (suc n) h = omega arith

-- two numbers, and a pair of them
pub pair-is : (s : NumberSet) (a b : ℕ) (p : ℕ × ℕ) → ((y : ℕ) → has_bits s y ≡ (nat_eq y a || nat_eq y b)) → ◌≡◌ {A = Option (ℕ × ℕ)} (Some (a, b)) (Some p) →
    (y : ℕ) → has_bits s y ≡ (nat_eq y p.0 || nat_eq y p.1)
pair-is s a b p h e y =
    let q : ◌≡◌ {A = ℕ × ℕ} (a, b) p = cc in
    h y ∙ ap (λ (r : ℕ × ℕ). nat_eq y r.0 || nat_eq y r.1) q

-- tests of two numbers
pub first-of : (y a b : ℕ) → y ≡ a → nat_eq y a ≡ (nat_eq y a || nat_eq y b)
first-of y a b e = rw (eq-eqb y a e) refl

pub second-of : (y a b : ℕ) → (y ≡ a → ⊥) → nat_eq y b ≡ (nat_eq y a || nat_eq y b)
second-of y a b n = rw (ne_eqb y a n) refl

or-same : (a b y : ℕ) → b ≡ a → (nat_eq y a || nat_eq y b) ≡ nat_eq y a
or-same a b y e = ap (λ n. nat_eq y a || nat_eq y n) e ∙ twice (nat_eq y a)
  where
    twice : (t : Bool) → (t || t) ≡ t
    twice true = refl
    twice false = refl

or-if : (s t : Bool) → (if t then true else s) ≡ (s || t)
or-if true true = refl
or-if true false = refl
or-if false true = refl
or-if false false = refl

-- two numbers put into an empty set are its members
pub put-two : (s t u : NumberSet) (a b : ℕ) → a < 4294967296 → b < 4294967296 → ((i : ℕ) → has_number s i ≡ false) →
    ((i : ℕ) → has_number t i ≡ cond (nat_eq i a) true (has_number s i)) → ((i : ℕ) → has_number u i ≡ cond (nat_eq i b) true (has_number t i)) →
    (y : ℕ) → has_bits u y ≡ (nat_eq y a || nat_eq y b)
put-two s t u a b small little none first second y =
    changed-is t u b true little second y ∙ ap (λ c. if nat_eq y b then true else c) (single-is s t a small none first y)
    ∙ or-if (nat_eq y a) (nat_eq y b)

-- two members in a list, which may be one
pub lists-same : (has : ℕ → Bool) (items : List ℕ) (a b : ℕ) → items ≡ a ∷ [] → b ≡ a → ((y : ℕ) → has y ≡ (nat_eq y a || nat_eq y b)) → ListsBits has items
lists-same has items a b e q two = lists-one has items a e (λ y. two y ∙ or-same a b y q)

pub lists-two : (has : ℕ → Bool) (items : List ℕ) (a b : ℕ) → items ≡ a ∷ b ∷ [] → (b ≡ a → ⊥) → ((y : ℕ) → has y ≡ (nat_eq y a || nat_eq y b)) →
    ListsBits has items
unfolding times_listed
lists-two has items a b e n two y =
    ap (λ (l : List ℕ). times_listed l y) e ∙ elim (cases_eq y a) [
      | inl p ↦ rw (two y, eq-eqb y a p, eq-eqb a y (sym p), ne_eqb b y (λ q. n (q ∙ p))) refl
      | inr m ↦ elim (cases_eq y b) [
        | inl q ↦ rw (two y, ne_eqb y a m, ne_eqb a y (λ r. m (sym r)), eq-eqb y b q, eq-eqb b y (sym q)) refl
        | inr k ↦ rw (two y, ne_eqb y a m, ne_eqb a y (λ r. m (sym r)), ne_eqb y b k, ne_eqb b y (λ r. k (sym r))) refl
      ]
    ]

-- a set of two is within another that has them
pub two-within : (has other : ℕ → Bool) (a b : ℕ) (t : Bool) → ((y : ℕ) → has y ≡ (nat_eq y a || nat_eq y b)) → other a ≡ true → t ≡ other b →
    OnTrue t ((y : ℕ) → has y ≡ true → other y ≡ true)
two-within has other a b true two first second = λ y is. elim (cases_eq y a) [
  | inl p ↦ ap other p ∙ first
  | inr n ↦ ap other (eqb-true y b (second-of y a b n ∙ sym (two y) ∙ is)) ∙ sym second
]
two-within has other a b false two first second = tt

-- a set of two is not within another that hasn't the first, or the second
pub two-first : (has other : ℕ → Bool) (a b : ℕ) → a < 4294967296 → ((y : ℕ) → has y ≡ (nat_eq y a || nat_eq y b)) → other a ≡ false → IsLess has other
two-first has other a b small two none = record {
  bits = a;
  small = small;
  here = two a ∙ sym (first-of a a b refl) ∙ eq-eqb a a refl;
  not_there = none;
}

pub two-less : (has other : ℕ → Bool) (a b : ℕ) (t : Bool) → b < 4294967296 → ((y : ℕ) → has y ≡ (nat_eq y a || nat_eq y b)) → t ≡ other b →
    OnFalse t (IsLess has other)
two-less has other a b true small two h = tt
two-less has other a b false small two h = record {
  bits = b;
  small = small;
  here = two b ∙ ap (λ t. nat_eq b a || t) (eq-eqb b b refl) ∙ or-true (nat_eq b a);
  not_there = sym h;
}

-- a set of one member, and one more
pub pair-more : (has : ℕ → Bool) (bits only : ℕ) → ((y : ℕ) → has y ≡ nat_eq y only) → (y : ℕ) →
    (nat_eq y bits || nat_eq y only) ≡ (if nat_eq y bits then true else has y)
pair-more has bits only one y =
    swapped (nat_eq y bits) (nat_eq y only) ∙ ap (λ b. if nat_eq y bits then true else b) (sym (one y))
  where
    swapped : (s t : Bool) → (s || t) ≡ (if s then true else t)
    swapped true t = refl
    swapped false t = refl

-- one of two members is taken, or each of them, or none
pub less-neither : (a b bits : ℕ) → (a ≡ bits → ⊥) → (b ≡ bits → ⊥) → (y : ℕ) →
    (nat_eq y a || nat_eq y b) ≡ (if nat_eq y bits then false else (nat_eq y a || nat_eq y b))
less-neither a b bits n m =
    without-same (λ y. nat_eq y a || nat_eq y b) bits (rw (ne_eqb bits a (λ q. n (sym q)), ne_eqb bits b (λ q. m (sym q))) refl)

pub less-second : (a b bits : ℕ) → (a ≡ bits → ⊥) → b ≡ bits → (y : ℕ) → nat_eq y a ≡ (if nat_eq y bits then false else (nat_eq y a || nat_eq y b))
less-second a b bits n e y = elim (cases_eq y bits) [
  | inl p ↦ rw (eq-eqb y bits p, ne_eqb y a (λ q. n (sym q ∙ p))) refl
  | inr m ↦ rw (ne_eqb y bits m, ne_eqb y b (λ q. m (q ∙ e))) (sym (or-false (nat_eq y a)))
]

pub less-first : (a b bits : ℕ) → a ≡ bits → (b ≡ bits → ⊥) → (y : ℕ) → nat_eq y b ≡ (if nat_eq y bits then false else (nat_eq y a || nat_eq y b))
less-first a b bits e n y = elim (cases_eq y bits) [
  | inl p ↦ rw (eq-eqb y bits p, ne_eqb y b (λ q. n (sym q ∙ p))) refl
  | inr m ↦ rw (ne_eqb y bits m, ne_eqb y a (λ q. m (q ∙ e))) refl
]

pub less-both : (a b bits : ℕ) → a ≡ bits → b ≡ bits → (y : ℕ) → (if nat_eq y bits then false else (nat_eq y a || nat_eq y b)) ≡ false
less-both a b bits e f y = elim (cases_eq y bits) [
  | inl p ↦ rw (eq-eqb y bits p) refl
  | inr m ↦ rw (ne_eqb y bits m, ne_eqb y a (λ q. m (q ∙ e)), ne_eqb y b (λ q. m (q ∙ f))) refl
]

-- the members among two numbers that a set has
pub meet-both : (other : ℕ → Bool) (a b : ℕ) → other a ≡ true → other b ≡ true → (y : ℕ) →
    (nat_eq y a || nat_eq y b) ≡ ((nat_eq y a || nat_eq y b) && other y)
meet-both other a b h k = within-and (λ y. nat_eq y a || nat_eq y b) other (two-within (λ y. nat_eq y a || nat_eq y b) other a b true (λ y. refl) h (sym k))

pub meet-first : (other : ℕ → Bool) (a b : ℕ) → other a ≡ true → other b ≡ false → (y : ℕ) → nat_eq y a ≡ ((nat_eq y a || nat_eq y b) && other y)
meet-first other a b h k y = elim (cases_eq y a) [
  | inl p ↦ rw (eq-eqb y a p) (sym (ap other p ∙ h))
  | inr n ↦ elim (cases_eq y b) [
    | inl q ↦ rw (ne_eqb y a n, eq-eqb y b q) (sym (ap other q ∙ k))
    | inr m ↦ rw (ne_eqb y a n, ne_eqb y b m) refl
  ]
]

pub meet-second : (other : ℕ → Bool) (a b : ℕ) → other a ≡ false → other b ≡ true → (y : ℕ) → nat_eq y b ≡ ((nat_eq y a || nat_eq y b) && other y)
meet-second other a b h k y = elim (cases_eq y b) [
  | inl q ↦ rw (eq-eqb y b q, or-true (nat_eq y a)) (sym (ap other q ∙ k))
  | inr m ↦ elim (cases_eq y a) [
    | inl p ↦ rw (ne_eqb y b m, eq-eqb y a p) (sym (ap other p ∙ h))
    | inr n ↦ rw (ne_eqb y b m, ne_eqb y a n) refl
  ]
]

pub meet-none : (other : ℕ → Bool) (a b : ℕ) → other a ≡ false → other b ≡ false → (y : ℕ) → ((nat_eq y a || nat_eq y b) && other y) ≡ false
meet-none other a b h k y = elim (cases_eq y a) [
  | inl p ↦ rw (eq-eqb y a p) (ap other p ∙ h)
  | inr n ↦ elim (cases_eq y b) [
    | inl q ↦ rw (ne_eqb y a n, eq-eqb y b q) (ap other q ∙ k)
    | inr m ↦ rw (ne_eqb y a n, ne_eqb y b m) refl
  ]
]

-- what holds of two numbers holds of each member of a set of the two
pub either_member : (P : ℕ → Type 0) (a b y : ℕ) → nat_eq y a || nat_eq y b ≡ true → P a → P b → P y
either_member P a b y is here there = by_first (nat_eq y a) refl
  where
    by_first : (t : Bool) → nat_eq y a ≡ t → P y
    by_first true e = subst P (sym (eqb-true y a e)) here
    by_first false e = subst P (sym (eqb-true y b (ap (λ (t : Bool). t || nat_eq y b) (sym e) ∙ is))) there
