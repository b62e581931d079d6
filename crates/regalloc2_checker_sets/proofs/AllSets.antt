-- Sets by number: the empty one, the sets of one member, and the kept sets.
use Rattle.std.proofs.Common.{inl, inr, ℕ, ◌≡◌, ◌<◌, arith, Bool, true, false, cond, nat_eq, nat_lt, eq-eqb, refl, sym, ap, ◌∙◌, ◌+◌}
use Rattle.std.proofs.Common.{List, [], ◌∷◌, ◌++◌, length, get_or, zero, suc, ◌-◌}
use Rattle.std.specs.Prelude.{◌/◌, ◌%◌, ◌^◌, ◌&&◌, if◌then◌else◌}
use Rattle.std.specs.Int.{bit_at}
use Rattle.std.specs.Bool.{OnTrue, OnFalse}
use Rattle.std.proofs.lemmas.Bool.{cases_eq, cases_lt, ne_eqb, lt-ltb}
use Rattle.std.proofs.lemmas.Nat.Bits.{bit_at-pow_same, bit_at-pow_other, bit_at-zero}
use Rattle.std.proofs.lemmas.List.{get_or-append_right, get_or_append_left, get_or-append-add}
use Rattle.std.proofs.Math.ListN.{length-append}
use Rattle.std.proofs.Math.Bool.{and-false}
use Rattle.regalloc2_index.proofs.Bools.{not_both}
use Rattle.regalloc2_function.specs.Numbers.{NumberSet, has_number, word_of, times_listed}
use Rattle.regalloc2_checker_sets.specs.EntrySets.{has_bits, is_member, set_of_one, sets_of_one, all_sets, AreMore, IsSetOf, IsLess, ListsBits}
use Rattle.regalloc2_checker_sets.proofs.Bits.{added-is, added-more}
use Rattle.regalloc2_checker_sets.proofs.Lone.{lone-none}
use Rattle.regalloc2_checker_sets.proofs.Walked.{times-nil, times-one}

-- the words of a set of one member
word-of_one : (b k : ℕ) → word_of (set_of_one b) k ≡ cond (nat_eq k (b / 64)) (2 ^ (b % 64)) 0
unfolding word_of
word-of_one b k = omega arith

-- a set of one member has that member
pub has-of_one : (b y : ℕ) → has_number (set_of_one b) y ≡ nat_eq y b
unfolding has_number
has-of_one b y = ap (λ w. nat_eq (bit_at w (y % 64)) 1) (word-of_one b (y / 64)) ∙ bit b y
  where
    bit : (b y : ℕ) → nat_eq (bit_at (cond (nat_eq (y / 64) (b / 64)) (2 ^ (b % 64)) 0) (y % 64)) 1 ≡ nat_eq y b
    bit b y = elim (cases_eq y b) [
      | inl e ↦ rw (e, eq-eqb (b / 64) (b / 64) refl, bit_at-pow_same (b % 64), eq-eqb b b refl) refl
      | inr n ↦ elim (cases_eq (y / 64) (b / 64)) [
        | inl e ↦ rw (eq-eqb (y / 64) (b / 64) e, bit_at-pow_other (b % 64) (y % 64) (λ q. n (omega arith)), ne_eqb y b n) refl
        | inr m ↦ rw (ne_eqb (y / 64) (b / 64) m, bit_at-zero (y % 64), ne_eqb y b n) refl
      ]
    ]

pub one-is : (b y : ℕ) → b < 4294967296 → has_bits (set_of_one b) y ≡ nat_eq y b
one-is b y small = elim (cases_eq y b) [
  | inl e ↦ ap (λ t. t && has_number (set_of_one b) y) (lt-ltb y 4294967296 (omega arith)) ∙ has-of_one b y
  | inr n ↦ ap (λ t. nat_lt y 4294967296 && t) (has-of_one b y ∙ ne_eqb y b n) ∙ and-false _ ∙ sym (ne_eqb y b n)
]

-- how many sets of one member there are
length-ones : (k : ℕ) → length (sets_of_one k) ≡ k
unfolding sets_of_one
length-ones zero = refl
length-ones (suc k) = let a = length-append (sets_of_one k) (set_of_one k ∷ []) in let h = length-ones k in omega arith

-- which sets of one member there are
ones-at : (k b : ℕ) → b < k → get_or (sets_of_one k) b [] ≡ set_of_one b
unfolding sets_of_one
ones-at zero b l = absurd (omega arith)
ones-at (suc k) b l = elim (cases_lt b k) [
  | inl low ↦ (let h = length-ones k in get_or_append_left (sets_of_one k) (set_of_one k ∷ []) [] b (omega arith)) ∙ ones-at k b low
  | inr high ↦ last b (omega arith)
]
  where
    last : (b : ℕ) → b ≡ k → get_or (sets_of_one k ++ set_of_one k ∷ []) b [] ≡ set_of_one b
    last b e =
        let h = length-ones k in
        rw e (get_or-append_right (sets_of_one k) (set_of_one k ∷ []) k k [] h (omega arith) ∙ ap (λ j. get_or (set_of_one k ∷ []) j []) (self k))
      where
        self : (n : ℕ) → n - n ≡ 0
        self n = omega arith

-- how many sets there are
pub all-long : (sets kept : List NumberSet) → all_sets kept ≡ sets → length sets ≡ 2147483648 + length kept
unfolding all_sets
all-long sets kept e =
    let a = length-append (sets_of_one 2147483647) kept in
    let h = length-ones 2147483647 in
    let l : length (all_sets kept) ≡ length sets = ap length e in
    omega arith

-- the first is empty
pub empty-at : (sets kept : List NumberSet) (n : ℕ) → all_sets kept ≡ sets → n ≡ 0 → (y : ℕ) → is_member sets n y ≡ false
unfolding all_sets has_number word_of
empty-at sets kept n e z y =
    ap (λ j. is_member sets j y) z ∙ ap (λ (l : List NumberSet). is_member l 0 y) (sym e)
    ∙ ap (λ b. nat_lt y 4294967296 && nat_eq b 1) (bit_at-zero (y % 64)) ∙ and-false _

-- the first set is a set without members
pub empty-is : (sets kept : List NumberSet) (has : ℕ → Bool) → all_sets kept ≡ sets → ((y : ℕ) → has y ≡ false) → IsSetOf sets 0 has
empty-is sets kept has e none = let a = all-long sets kept e in record {
  below = omega arith;
  members = λ y. empty-at sets kept 0 e refl y ∙ sym (none y);
}

-- the number after bits is that of the set that has them alone
pub one-at : (sets kept : List NumberSet) (n b : ℕ) → all_sets kept ≡ sets → n ≡ b + 1 → n < 2147483648 → IsSetOf sets n (λ y. nat_eq y b)
unfolding all_sets
one-at sets kept n b e m l = let a = all-long sets kept e in record {
  below = omega arith;
  members = λ y. ap (λ j. is_member sets j y) (next n b m) ∙ ap (λ (l : List NumberSet). is_member l (suc b) y) (sym e)
      ∙ ap (λ (s : NumberSet). has_bits s y) (at b (omega arith)) ∙ one-is b y (omega arith);
}
  where
    next : (n b : ℕ) → n ≡ b + 1 → n ≡ suc b
    next n b m = omega arith

    at : (b : ℕ) → b < 2147483647 → get_or (all_sets kept) (suc b) [] ≡ set_of_one b
    at b l = let h = length-ones 2147483647 in get_or_append_left (sets_of_one 2147483647) kept [] b (omega arith) ∙ ones-at 2147483647 b l

-- the numbers past the sets of one member are of the kept sets
pub kept-at : (sets kept : List NumberSet) (n i : ℕ) → all_sets kept ≡ sets → n ≡ 2147483648 + i → get_or sets n [] ≡ get_or kept i []
unfolding all_sets
kept-at sets kept n i e m =
    let h = length-ones 2147483647 in
    ap (λ (l : List NumberSet). get_or l n []) (sym e) ∙ ap (λ j. get_or (all_sets kept) j []) (from (length (sets_of_one 2147483647)) n i h m)
    ∙ get_or-append-add (sets_of_one 2147483647) kept i []
  where
    from : (k n i : ℕ) → k ≡ 2147483647 → n ≡ 2147483648 + i → n ≡ suc (k + i)
    from k n i h m = omega arith

-- a set that is put at the end has the last number
pub push-at : (kept new : List NumberSet) (s : NumberSet) (n : ℕ) (has : ℕ → Bool) → new ≡ kept ++ s ∷ [] →
    n ≡ 2147483648 + length kept → ((y : ℕ) → has_bits s y ≡ has y) → IsSetOf (all_sets new) n has
push-at kept new s n has q m h =
    let a = all-long (all_sets new) new refl in
    let i = added-is kept new (length kept) s has refl q h in
    let below = i.below in
    record {
      below = omega arith;
      members = λ y. ap (λ (x : NumberSet). has_bits x y) (kept-at (all_sets new) new n (length kept) refl m) ∙ i.members y;
    }

-- lower numbers are of the same sets, whatever is kept
pub few-same : (kept new : List NumberSet) (n : ℕ) → n < 2147483648 → get_or (all_sets new) n [] ≡ get_or (all_sets kept) n []
unfolding all_sets
few-same kept new zero l = refl
few-same kept new (suc n) l =
    let h = length-ones 2147483647 in
    get_or_append_left (sets_of_one 2147483647) new [] n (omega arith) ∙ sym (get_or_append_left (sets_of_one 2147483647) kept [] n (omega arith))

-- where a set is put at the end, the sets that were there stay
pub push-more : (sets kept new : List NumberSet) (s : NumberSet) → all_sets kept ≡ sets → new ≡ kept ++ s ∷ [] → AreMore sets (all_sets new)
push-more sets kept new s e q =
    let a = all-long sets kept e in
    let b = all-long (all_sets new) new refl in
    let m = added-more kept new s q in
    let longer = m.longer in
    record {
      longer = omega arith;
      kept = λ n y l. elim (cases_lt n 2147483648) [
        | inl low ↦ ap (λ (x : NumberSet). has_bits x y) (few-same kept new n low ∙ ap (λ (x : List NumberSet). get_or x n []) e)
        | inr high ↦
            ap (λ (x : NumberSet). has_bits x y) (kept-at (all_sets new) new n (n - 2147483648) refl (omega arith))
            ∙ m.kept (n - 2147483648) y (omega arith)
            ∙ ap (λ (x : NumberSet). has_bits x y) (sym (kept-at sets kept n (n - 2147483648) e (omega arith)))
      ];
    }

-- a lower number is of a set that has nothing in common with another, if it isn't within that
pub few-apart : (sets kept : List NumberSet) (n : ℕ) (other : ℕ → Bool) → all_sets kept ≡ sets → n < 2147483648 → IsLess (is_member sets n) other → (y : ℕ) →
    (is_member sets n y && other y) ≡ false
few-apart sets kept n other e l less = elim (cases_eq n 0) [
  | inl z ↦ absurd (not_both (is_member sets n less.bits) less.here (empty-at sets kept n e z less.bits))
  | inr m ↦ lone-none (is_member sets n) other (n - 1) (one-at sets kept n (n - 1) e (omega arith) l).members less
]

-- the members of the empty set, and of a set of one member, in a list
pub lists-none : (has : ℕ → Bool) (items : List ℕ) → items ≡ [] → ((y : ℕ) → has y ≡ false) → ListsBits has items
lists-none has items e none y = ap (λ (l : List ℕ). times_listed l y) e ∙ times-nil y ∙ sym (ap (λ b. if b then 1 else 0) (none y))

pub lists-one : (has : ℕ → Bool) (items : List ℕ) (b : ℕ) → items ≡ b ∷ [] → ((y : ℕ) → has y ≡ nat_eq y b) → ListsBits has items
lists-one has items b e one y =
    ap (λ (l : List ℕ). times_listed l y) e ∙ times-one b y ∙ ap (λ t. if t then 1 else 0) (same b y) ∙ sym (ap (λ t. if t then 1 else 0) (one y))
  where
    same : (x y : ℕ) → nat_eq x y ≡ nat_eq y x
    same x y = elim (cases_eq x y) [
      | inl e ↦ eq-eqb x y e ∙ sym (eq-eqb y x (sym e))
      | inr n ↦ ne_eqb x y n ∙ sym (ne_eqb y x (λ q. n (sym q)))
    ]

-- equal tests say the same of whether all that one has another has too
pub within-as : (f g other : ℕ → Bool) (b : Bool) → ((y : ℕ) → f y ≡ g y) → OnTrue b ((y : ℕ) → f y ≡ true → other y ≡ true) →
    OnTrue b ((y : ℕ) → g y ≡ true → other y ≡ true)
within-as f g other true e h = λ y is. h y (e y ∙ is)
within-as f g other false e h = tt

pub less-as : (f g other : ℕ → Bool) (b : Bool) → ((y : ℕ) → f y ≡ g y) → OnFalse b (IsLess f other) → OnFalse b (IsLess g other)
less-as f g other true e h = tt
less-as f g other false e h = record { bits = h.bits; small = h.small; here = sym (e h.bits) ∙ h.here; not_there = h.not_there }
