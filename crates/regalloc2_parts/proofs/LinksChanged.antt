-- How many links differ.
use Rattle.std.proofs.Common.{ℕ, zero, suc, ◌≡◌, ◌+◌, ◌≤◌, ◌∙◌, refl, arith, List, [], ◌∷◌, Bool, true, false, cond, nat_eq, eqb-true, eq-eqb, length}
use Rattle.std.specs.Prelude.{slice_set}
use Rattle.regalloc2_parts.specs.Links.{changed}

-- none differ from themselves
pub changed-same : (xs : List ℕ) → changed xs xs ≡ 0
unfolding changed
changed-same [] = refl
changed-same (x ∷ xs) = let e : nat_eq x x ≡ true = eq-eqb x x refl in rw (e, changed-same xs) refl

at_most_one : (b : Bool) → cond b 0 1 ≤ 1
at_most_one true = omega arith
at_most_one false = omega arith

-- one write changes one number at most
pub changed-set : (xs : List ℕ) (i v : ℕ) → changed xs (slice_set xs i v) ≤ 1
unfolding changed
changed-set [] i v = omega arith
changed-set (x ∷ xs) zero v = rw (changed-same xs) (let h : cond (nat_eq x v) 0 1 ≤ 1 = at_most_one (nat_eq x v) in omega arith)
changed-set (x ∷ xs) (suc i) v =
    let e : nat_eq x x ≡ true = eq-eqb x x refl in
    rw e (let h : changed xs (slice_set xs i v) ≤ 1 = changed-set xs i v in omega arith)

one_apart : (a b c : ℕ) (p q : Bool) → nat_eq a b ≡ p → nat_eq b c ≡ q → cond (nat_eq a c) 0 1 ≤ cond p 0 1 + cond q 0 1
one_apart a b c true true e f =
    let same : nat_eq a c ≡ true = eq-eqb a c (eqb-true a b e ∙ eqb-true b c f) in
    rw same (omega arith)
one_apart a b c true false e f = let h : cond (nat_eq a c) 0 1 ≤ 1 = at_most_one (nat_eq a c) in omega arith
one_apart a b c false q e f = let h : cond (nat_eq a c) 0 1 ≤ 1 = at_most_one (nat_eq a c) in omega arith

-- two changes after each other change at most as many as both
pub changed-trans : (xs ys zs : List ℕ) → length xs ≡ length ys → length ys ≡ length zs → changed xs zs ≤ changed xs ys + changed ys zs
unfolding changed
changed-trans [] [] zs e f = omega arith
changed-trans [] (y ∷ ys) zs e f = absurd (omega arith)
changed-trans (x ∷ xs) [] zs e f = absurd (omega arith)
changed-trans (x ∷ xs) (y ∷ ys) [] e f = absurd (omega arith)
changed-trans (x ∷ xs) (y ∷ ys) (z ∷ zs) e f =
    let here : cond (nat_eq x z) 0 1 ≤ cond (nat_eq x y) 0 1 + cond (nat_eq y z) 0 1 = one_apart x y z (nat_eq x y) (nat_eq y z) refl refl in
    let rest : changed xs zs ≤ changed xs ys + changed ys zs = changed-trans xs ys zs (omega arith) (omega arith) in
    omega arith
