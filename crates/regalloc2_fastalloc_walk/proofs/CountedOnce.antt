-- Elements that pass a test, where a count says that there are one or two.
use Rattle.std.proofs.Common.{ℕ, suc, ◌≡◌, ◌<◌, ◌≤◌, Bool, true, false, cond, inl, inr, List, [], ◌∷◌, length, ap, arith}
use Rattle.std.specs.Prelude.{count_by, slice_index_or}
use Rattle.std.proofs.lemmas.Bool.{cases_Bool}
use Rattle.std.proofs.lemmas.List.Sums.{sum_by-cons}

-- 1 if a test passes, else 0
abbrev one_if : Bool → ℕ
one_if b = cond b 1 0

counts : {X : Type 0} (p : X → Bool) (x : X) → p x ≡ true → one_if (p x) ≡ 1
counts p x e = ap one_if e

counts_no : {X : Type 0} (p : X → Bool) (x : X) → p x ≡ false → one_if (p x) ≡ 0
counts_no p x e = ap one_if e

-- an element passes
pub one_counted : {X : Type 0} (p : X → Bool) (xs : List X) (d : X) → 1 ≤ count_by p xs → (i : ℕ) × (i < length xs) × (p (slice_index_or xs i d) ≡ true)
one_counted p [] d h = absurd (omega (arith, h))
one_counted p (x ∷ xs) d h = elim (cases_Bool (p x)) [
  | inl passes ↦ (0, omega arith, passes)
  | inr fails ↦ (let rest = one_counted p xs d (let s = sum_by-cons (λ y. one_if (p y)) x xs in let n = counts_no p x fails in omega (arith, h, s, n)) in
      (suc rest.0, omega (arith, rest.1), rest.2))
]

-- two elements pass
pub two_counted : {X : Type 0} (p : X → Bool) (xs : List X) (d : X) → 2 ≤ count_by p xs → (i j : ℕ) × (i < j) × (j < length xs)
    × (p (slice_index_or xs i d) ≡ true) × (p (slice_index_or xs j d) ≡ true)
two_counted p [] d h = absurd (omega (arith, h))
two_counted p (x ∷ xs) d h = elim (cases_Bool (p x)) [
  | inl passes ↦ (let rest = one_counted p xs d (let s = sum_by-cons (λ y. one_if (p y)) x xs in let n = counts p x passes in omega (arith, h, s, n)) in
      (0, suc rest.0, omega arith, omega (arith, rest.1), passes, rest.2))
  | inr fails ↦ (let rest = two_counted p xs d (let s = sum_by-cons (λ y. one_if (p y)) x xs in let n = counts_no p x fails in omega (arith, h, s, n)) in
      (suc rest.0, suc rest.1, omega (arith, rest.2), omega (arith, rest.3), rest.4, rest.5))
]
