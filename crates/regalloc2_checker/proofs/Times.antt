-- How often a number is listed, and whether it is.
use Rattle.std.proofs.Common.{inl, inr, Bool, true, false, ℕ, zero, suc, ◌≡◌, ◌<◌, arith}
use Rattle.std.proofs.Common.{cond, nat_eq, eq-eqb, List, [], ◌∷◌, length, get_or, refl, ap}
use Rattle.std.specs.Prelude.{Contains, ◌↔◌, if◌then◌else◌}
use Rattle.regalloc2_checker_sets.specs.EntrySets.{ListsBits}
use Rattle.std.proofs.lemmas.Bool.{cases_eq, ne_eqb}
use Rattle.regalloc2_function.specs.Numbers.{times_listed}

to-times : (xs : List ℕ) (i y : ℕ) → i < length xs → get_or xs i y ≡ y → 0 < times_listed xs y
unfolding times_listed
to-times [] i y l e = absurd (omega arith)
to-times (x ∷ xs) zero y l e = let a : ◌≡◌ {A = ℕ} (cond (nat_eq x y) 1 0) 1 = ap (λ b. cond b 1 0) (eq-eqb x y e) in omega arith
to-times (x ∷ xs) (suc i) y l e = let a = to-times xs i y (omega arith) e in omega arith

-- a number in a list is there at least once
pub times-of : (xs : List ℕ) (y : ℕ) → Contains xs y → 0 < times_listed xs y
times-of xs y h = to-times xs h.0 y h.1 h.2

-- a number that is there at least once is in the list
pub contains-of : (xs : List ℕ) (y : ℕ) → 0 < times_listed xs y → Contains xs y
unfolding times_listed
contains-of [] y l = absurd (omega arith)
contains-of (x ∷ xs) y l = elim (cases_eq x y) [
  | inl e ↦ (zero, omega arith, e)
  | inr n ↦
      let a : ◌≡◌ {A = ℕ} (cond (nat_eq x y) 1 0) 0 = ap (λ b. cond b 1 0) (ne_eqb x y n) in
      let r = contains-of xs y (omega arith) in
      (suc r.0, (let s = r.1 in omega arith), r.2)
]

count-some : (b : Bool) → 0 < (if b then 1 else 0) → b ≡ true
count-some true h = refl
count-some false h = absurd (omega arith)

count-one : (b : Bool) → b ≡ true → ◌≡◌ {A = ℕ} (if b then 1 else 0) 1
count-one true h = refl
count-one false h = absurd cc

-- of a list with the same numbers as one that lists each member once
pub members-are : (has : ℕ → Bool) (ys zs : List ℕ) → ListsBits has ys → ((n : ℕ) → Contains zs n ↔ Contains ys n) → (y : ℕ) → Contains zs y ↔ (has y ≡ true)
members-are has ys zs h e y = (
  λ k. count-some (has y) (let a = h y in let b = times-of ys y ((e y).0 k) in omega arith),
  λ is. (e y).1 (contains-of ys y (let a = h y in let b = count-one (has y) is in omega arith)),
)
