-- Positions in a list of rising numbers.
use Rattle.std.proofs.Common.{ℕ, zero, suc, ◌≡◌, ◌+◌, ◌-◌, ◌<◌, ◌≤◌, arith, cond}
use Rattle.std.proofs.Common.{nat_lt, eq-eqb, List, length, get_or, refl, sym, ap, ◌∙◌, subst}
use Rattle.std.specs.Prelude.{◌==◌, Option, None, Some}
use Rattle.std.specs.List.{position, position_or_len}
use Rattle.std.specs.List.Sorted.{IsStrictlyIncreasing}
use Rattle.std.proofs.lemmas.List.Sums.{position_or_len_is}
use Rattle.std.proofs.lemmas.List.Quantifiers.{position-Some}
use Rattle.std.proofs.lemmas.Bool.{eqb-true, le-ltb, lt-ltb, ne_eqb as apart}
use Rattle.std.proofs.Common.{inl, inr}
use Rattle.std.proofs.lemmas.Bool.{cases_lt}

rising-steps : (xs : List ℕ) → IsStrictlyIncreasing xs → (n i j : ℕ) → j ≡ i + 1 + n → j < length xs → get_or xs i 0 < get_or xs j 0
rising-steps xs h zero i j e less =
    let d : i + 1 ≡ j = omega arith in
    subst (λ (k : ℕ). get_or xs i 0 < get_or xs k 0) d (h i (omega arith))
rising-steps xs h (suc n) i j e less =
    let m : ℕ = i + 1 + n in
    let d : m + 1 ≡ j = omega arith in
    let a : get_or xs i 0 < get_or xs m 0 = rising-steps xs h n i m refl (omega arith) in
    let b : get_or xs m 0 < get_or xs (m + 1) 0 = h m (omega arith) in
    subst (λ (k : ℕ). get_or xs i 0 < get_or xs k 0) d (omega arith)

-- numbers rise
pub rising : (xs : List ℕ) → IsStrictlyIncreasing xs → (i j : ℕ) → i < j → j < length xs → get_or xs i 0 < get_or xs j 0
rising xs h i j l less = rising-steps xs h (j - i - 1) i j (omega arith) less

-- a list that strictly increases never falls
pub not-falling : (xs : List ℕ) → IsStrictlyIncreasing xs → (i j : ℕ) → i ≤ j → j < length xs → get_or xs i 0 ≤ get_or xs j 0
not-falling xs h i j l less = elim (cases_lt i j) [
  | inl a ↦ (let b = rising xs h i j a less in omega arith)
  | inr b ↦ (let e : i ≡ j = omega arith in let d = ap (λ n. get_or xs n 0) e in omega arith)
]

-- each is listed once
pub listed-once : (xs : List ℕ) → IsStrictlyIncreasing xs → (i j : ℕ) → i < length xs → j < length xs → get_or xs i 0 ≡ get_or xs j 0 → i ≡ j
listed-once xs h i j li lj e = elim (cases_lt i j) [
  | inl a ↦ (let b = rising xs h i j a lj in absurd (omega arith))
  | inr g ↦ elim (cases_lt j i) [
    | inl a ↦ (let b = rising xs h j i a li in absurd (omega arith))
    | inr k ↦ omega arith
  ]
]

-- the position of a number that is listed
pub found-is : (xs : List ℕ) (x i : ℕ) → IsStrictlyIncreasing xs → i < length xs → get_or xs i 0 ≡ x → Some i ≡ position (λ n. n == x) xs
found-is xs x i h less e =
    let p : position_or_len (λ n. n == x) xs ≡ i = position_or_len_is (λ n. n == x) xs i 0 (omega arith)
    (λ k l. apart (get_or xs k 0) x (let r = rising xs h k i l less in λ q. absurd (omega arith)))
    (λ l. eq-eqb (get_or xs i 0) x e) in
    sym (ap (λ n. cond (nat_lt n (length xs)) (Some n) None) p ∙ ap (λ b. cond b (Some i) None) (lt-ltb i (length xs) less))

-- a number that isn't listed has no position
pub found-none : (xs : List ℕ) (x : ℕ) → ((k : ℕ) → k < length xs → get_or xs k 0 ≡ x → ⊥) → ◌≡◌ {A = Option ℕ} None (position (λ n. n == x) xs)
found-none xs x h =
    let p : position_or_len (λ n. n == x) xs ≡ length xs = position_or_len_is (λ n. n == x) xs (length xs) 0 (omega arith)
    (λ k l. apart (get_or xs k 0) x (h k l)) (λ l. absurd (omega arith)) in
    sym (ap (λ n. cond (nat_lt n (length xs)) (Some n) None) p ∙ ap (λ b. cond b (Some (length xs)) None) (le-ltb (length xs) (length xs) (omega arith)))

-- the number at a found position
pub at-position : (xs : List ℕ) (x i : ℕ) → position (λ n. n == x) xs ≡ Some i → (i < length xs) × (get_or xs i 0 ≡ x)
at-position xs x i e = let s = position-Some (λ n. n == x) xs i 0 e in (s.0, eqb-true (get_or xs i 0) x s.1)

-- a number that the search doesn't find is at no index
pub not-listed : (xs : List ℕ) (x : ℕ) → IsStrictlyIncreasing xs → position (λ n. n == x) xs ≡ None → (k : ℕ) → k < length xs → get_or xs k 0 ≡ x → ⊥
not-listed xs x h e k less d = let s = found-is xs x k h less d ∙ e in absurd cc
