-- Numbers that differ, and lists of them.
use Rattle.std.proofs.Common.{ℕ, zero, suc, ◌≡◌, ◌≢◌, ◌<◌, ◌≤◌, refl, arith, sym, ap, subst, List}
use Rattle.std.proofs.Common.{[], ◌∷◌, ◌++◌, Bool, true, false, not, cond, ◌||◌, nat_eq, eqb-true, eq-eqb, length}
use Rattle.std.specs.Prelude.{All, Contains, filter}
use Rattle.std.specs.List.{AllByRecursion, IsDistinct, list_any}
use Rattle.std.proofs.lemmas.List.Elements.{All-filter, All-from_recursion, All-weaker, filter_passes, recursion_from_All}
use Rattle.std.proofs.lemmas.Map.Keys.{IsDistinct-head, IsDistinct-tail, IsDistinct-cons}
use Rattle.std.proofs.lemmas.Map.Steps.{length-le_from_distinct_below}
use Rattle.std.proofs.lemmas.Bool.{not-true}
use Rattle.regalloc2_parts.specs.Links.{LacksNumber}

-- one number differs from another as the other does from it
pub flip : (i j : ℕ) → nat_eq i j ≡ false → nat_eq j i ≡ false
flip i j h = by_answer (nat_eq j i) refl
  where
    by_answer : (b : Bool) → nat_eq j i ≡ b → b ≡ false
    by_answer true e = absurd (let t : nat_eq i j ≡ true = eq-eqb i j (sym (eqb-true j i e)) in cc)
    by_answer false e = refl

-- the test of equality says no for different numbers
pub differs : (m n : ℕ) → n ≢ m → nat_eq m n ≡ false
differs m n d = by_answer (nat_eq m n) refl
  where
    by_answer : (b : Bool) → nat_eq m n ≡ b → b ≡ false
    by_answer true e = absurd (d (sym (eqb-true m n e)))
    by_answer false e = refl

-- a list of other numbers lacks a number, by the test
pub lacks : (p : ℕ) (xs : List ℕ) → All (λ n. n ≢ p) xs → LacksNumber p xs
lacks p xs h = recursion_from_All (λ (n : ℕ). nat_eq p n ≡ false) xs (All-weaker (λ (n : ℕ). n ≢ p) (λ (n : ℕ). nat_eq p n ≡ false) (λ n d. differs p n d) xs h)

-- the numbers of a list that lacks a number differ from it
pub all_differ : (p : ℕ) (xs : List ℕ) → LacksNumber p xs → All (λ n. n ≢ p) xs
all_differ p xs l = All-weaker (λ (n : ℕ). nat_eq p n ≡ false) (λ (n : ℕ). n ≢ p) other xs (All-from_recursion (λ (n : ℕ). nat_eq p n ≡ false) xs l)
  where
    other : (n : ℕ) → nat_eq p n ≡ false → n ≢ p
    other n f s = let t : nat_eq p n ≡ true = eq-eqb p n (sym s) in cc

-- a list without a number
abbrev pub without : ℕ → List ℕ → List ℕ
without p xs = filter (λ n. not (nat_eq p n)) xs

-- a list without a number that it lacks is the list
pub all_kept : (p : ℕ) (xs : List ℕ) → LacksNumber p xs → without p xs ≡ xs
all_kept p [] h = refl
all_kept p (x ∷ xs) h = rw h.0 (ap (λ l. x ∷ l) (all_kept p xs h.1))

-- what holds of all of a list holds of its member
pub of_member : (P : ℕ → Type 0) (xs : List ℕ) (p : ℕ) → AllByRecursion P xs → Contains xs p → P p
of_member P [] p l (i, less, at) = absurd (omega arith)
of_member P (x ∷ xs) p l (zero, less, at) = subst P at l.0
of_member P (x ∷ xs) p l (suc i, less, at) = of_member P xs p l.1 (i, omega arith, at)

-- what holds of all of a list holds of what is left without a number
pub each_without : (P : ℕ → Type 0) (p : ℕ) (xs : List ℕ) → AllByRecursion P xs → AllByRecursion P (without p xs)
each_without P p xs h = recursion_from_All P (without p xs) (All-filter (λ n. not (nat_eq p n)) P xs (All-from_recursion P xs h))

-- a list without a number lacks it
pub gone : (p : ℕ) (xs : List ℕ) → LacksNumber p (without p xs)
gone p xs = recursion_from_All (λ (n : ℕ). nat_eq p n ≡ false) (without p xs)
    (All-weaker (λ (n : ℕ). not (nat_eq p n) ≡ true) (λ (n : ℕ). nat_eq p n ≡ false) (λ n. not-true (nat_eq p n)) (without p xs)
    (filter_passes (λ (n : ℕ). not (nat_eq p n)) xs))

-- a list without repeats has none without one of its numbers
pub distinct_without : (p : ℕ) (xs : List ℕ) → IsDistinct nat_eq xs → IsDistinct nat_eq (without p xs)
distinct_without p [] d = d
distinct_without p (x ∷ xs) d = kept (not (nat_eq p x)) (distinct_without p xs (IsDistinct-tail nat_eq x xs d))
  where
    kept : (t : Bool) → IsDistinct nat_eq (without p xs) → IsDistinct nat_eq (cond t (x ∷ without p xs) (without p xs))
    kept true h = IsDistinct-cons nat_eq x (without p xs) (each_without (λ (n : ℕ). nat_eq x n ≡ false) p xs (IsDistinct-head nat_eq x xs d)) h
    kept false h = h

-- one more at the end
pub each_ended : (P : ℕ → Type 0) (xs : List ℕ) (p : ℕ) → AllByRecursion P xs → P p → AllByRecursion P (xs ++ p ∷ [])
each_ended P [] p h here = (here, tt)
each_ended P (x ∷ xs) p h here = (h.0, each_ended P xs p h.1 here)

-- what holds of all of a list with a last number holds of the list before it, and of that number
pub not_the_end : (P : ℕ → Type 0) (xs : List ℕ) (p : ℕ) → AllByRecursion P (xs ++ p ∷ []) → AllByRecursion P xs × P p
not_the_end P [] p h = (tt, h.0)
not_the_end P (x ∷ xs) p h = let r = not_the_end P xs p h.1 in ((h.0, r.0), r.1)

-- a list without repeats has none with a number at its end that it lacks
pub distinct_ended : (xs : List ℕ) (p : ℕ) → IsDistinct nat_eq xs → LacksNumber p xs → IsDistinct nat_eq (xs ++ p ∷ [])
unfolding IsDistinct
distinct_ended [] p d l = (tt, tt)
distinct_ended (x ∷ xs) p d l =
    IsDistinct-cons nat_eq x (xs ++ p ∷ []) (each_ended (λ (n : ℕ). nat_eq x n ≡ false) xs p (IsDistinct-head nat_eq x xs d) (flip p x l.0))
    (distinct_ended xs p (IsDistinct-tail nat_eq x xs d) l.1)

-- in a list without repeats, the numbers before the end are distinct and differ from it
pub distinct_before : (xs : List ℕ) (p : ℕ) → IsDistinct nat_eq (xs ++ p ∷ []) → IsDistinct nat_eq xs × LacksNumber p xs
unfolding IsDistinct
distinct_before [] p d = (tt, tt)
distinct_before (x ∷ xs) p d =
    let h = not_the_end (λ (n : ℕ). nat_eq x n ≡ false) xs p (IsDistinct-head nat_eq x (xs ++ p ∷ []) d) in
    let r = distinct_before xs p (IsDistinct-tail nat_eq x (xs ++ p ∷ []) d) in
    (IsDistinct-cons nat_eq x xs h.0 r.0, (flip x p h.1, r.1))

-- none before a number is it
at_middle : (P : ℕ → Type 0) (xs : List ℕ) (p : ℕ) (ys : List ℕ) → AllByRecursion P (xs ++ p ∷ ys) → P p
at_middle P [] p ys h = h.0
at_middle P (x ∷ xs) p ys h = at_middle P xs p ys h.1

-- in a list without repeats, the numbers before one of it differ from it
pub lacks_before : (xs : List ℕ) (p : ℕ) (ys : List ℕ) → IsDistinct nat_eq (xs ++ p ∷ ys) → LacksNumber p xs
lacks_before [] p ys d = tt
lacks_before (x ∷ xs) p ys d = (
  flip x p (at_middle (λ (n : ℕ). nat_eq x n ≡ false) xs p ys (IsDistinct-head nat_eq x (xs ++ p ∷ ys) d)),
  lacks_before xs p ys (IsDistinct-tail nat_eq x (xs ++ p ∷ ys) d),
)

below_any : (xs : List ℕ) (c q : ℕ) → AllByRecursion (λ n. n < c) xs → list_any (nat_eq q) xs ≡ true → q < c
below_any [] c q low e = absurd cc
below_any (x ∷ xs) c q low e = either (nat_eq q x) (list_any (nat_eq q) xs) refl (below_any xs c q low.1) e
  where
    either : (b rest : Bool) → nat_eq q x ≡ b → (rest ≡ true → q < c) → b || rest ≡ true → q < c
    either true rest e f g = let same : q ≡ x = eqb-true q x e in omega (arith, low.0)
    either false rest e f g = f g

-- distinct numbers below a bound are at most as many as it says
pub few : (xs : List ℕ) (c : ℕ) → IsDistinct nat_eq xs → AllByRecursion (λ n. n < c) xs → length xs ≤ c
few xs c d low = length-le_from_distinct_below xs c d (λ q e. below_any xs c q low e)
