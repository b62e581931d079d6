-- Fewer pairs are held where one pair less is.
use Rattle.std.proofs.Common.{ℕ, zero, suc, ◌≡◌, ◌<◌, ◌≤◌, arith, Bool, true, false, cond, refl, subst, inl, inr, ap}
use Rattle.std.proofs.lemmas.Bool.{cases_eq}
use Rattle.regalloc2_checker.specs.Tables.{count_passing, sum_below, bits_end, pairs_held, all_pairs}

one_le : (a b : Bool) → (a ≡ true → b ≡ true) → cond a 1 0 ≤ cond b 1 0
one_le true true h = omega arith
one_le true false h = absurd (let e : false ≡ true = h refl in cc)
one_le false true h = omega arith
one_le false false h = omega arith

-- of the numbers below a bound, no more pass a test than pass one that it implies
pub count_le : (n : ℕ) (s t : ℕ → Bool) → ((y : ℕ) → s y ≡ true → t y ≡ true) → count_passing n s ≤ count_passing n t
unfolding count_passing
count_le zero s t h = omega arith
count_le (suc n) s t h =
    let one : cond (s n) 1 0 ≤ cond (t n) 1 0 = one_le (s n) (t n) (h n) in
    let rest : count_passing n s ≤ count_passing n t = count_le n s t h in
    omega arith

one_lt : (a b : Bool) → a ≡ false → b ≡ true → cond a 1 0 < cond b 1 0
one_lt true b h g = absurd cc
one_lt false true h g = omega arith
one_lt false false h g = absurd cc

-- of the numbers below a bound, fewer pass a test than pass one that it implies, if some number there passes the second alone
pub count_lt : (n : ℕ) (s t : ℕ → Bool) → ((y : ℕ) → s y ≡ true → t y ≡ true) → (x : ℕ) → x < n → s x ≡ false → t x ≡ true →
    count_passing n s < count_passing n t
unfolding count_passing
count_lt zero s t h x less a b = absurd (omega arith)
count_lt (suc n) s t h x less a b = elim (cases_eq x n) [
  | inl e ↦ (let one : cond (s n) 1 0 < cond (t n) 1 0 = one_lt (s n) (t n) (subst (λ (y : ℕ). s y ≡ false) e a) (subst (λ (y : ℕ). t y ≡ true) e b) in
      let rest : count_passing n s ≤ count_passing n t = count_le n s t h in
      omega arith)
  | inr ne ↦ (let one : cond (s n) 1 0 ≤ cond (t n) 1 0 = one_le (s n) (t n) (h n) in
      let rest : count_passing n s < count_passing n t = count_lt n s t h x (omega (arith, less, ne)) a b in
      omega arith)
]

-- a sum over the numbers below a bound is at most another one whose terms there are all at least as large
pub sum_le : (n : ℕ) (g h : ℕ → ℕ) → ((x : ℕ) → x < n → g x ≤ h x) → sum_below n g ≤ sum_below n h
unfolding sum_below
sum_le zero g h le = omega arith
sum_le (suc n) g h le =
    let one : g n ≤ h n = le n (omega arith) in
    let rest : sum_below n g ≤ sum_below n h = sum_le n g h (λ x l. le x (omega (arith, l))) in
    omega arith

-- a sum is smaller than another one if one of its terms is smaller, and none is larger
pub sum_lt : (n : ℕ) (g h : ℕ → ℕ) → ((x : ℕ) → x < n → g x ≤ h x) → (x : ℕ) → x < n → g x < h x → sum_below n g < sum_below n h
unfolding sum_below
sum_lt zero g h le x less l = absurd (omega arith)
sum_lt (suc n) g h le x less l = elim (cases_eq x n) [
  | inl e ↦ (let one : g n < h n = subst (λ (y : ℕ). g y < h y) e l in
      let rest : sum_below n g ≤ sum_below n h = sum_le n g h (λ z k. le z (omega (arith, k))) in
      omega arith)
  | inr ne ↦ (let one : g n ≤ h n = le n (omega arith) in
      let rest : sum_below n g < sum_below n h = sum_lt n g h (λ z k. le z (omega (arith, k))) x (omega (arith, less, ne)) l in
      omega arith)
]

-- two sums are equal if all of their terms are
pub sum-same : (n : ℕ) (g h : ℕ → ℕ) → ((x : ℕ) → x < n → g x ≡ h x) → sum_below n g ≡ sum_below n h
unfolding sum_below
sum-same zero g h e = refl
sum-same (suc n) g h e =
    let one : g n ≡ h n = e n (omega arith) in
    let rest : sum_below n g ≡ sum_below n h = sum-same n g h (λ x l. e x (omega (arith, l))) in
    omega arith

-- fewer pairs are held in one way than in another, if all that are held in the first are in the second, and one pair is in the second alone
pub fewer-held : (size : ℕ) (r m : ℕ → ℕ → Bool) → ((x y : ℕ) → x < size → r x y ≡ true → m x y ≡ true) → (x y : ℕ) → x < size → y < bits_end →
    r x y ≡ false → m x y ≡ true → pairs_held size r < pairs_held size m
fewer-held size r m h x y lx ly a b =
    sum_lt size (λ z. count_passing bits_end (r z)) (λ z. count_passing bits_end (m z)) (λ z l. count_le bits_end (r z) (m z) (λ w. h z w l)) x lx
    (count_lt bits_end (r x) (m x) (λ w. h x w lx) y ly a b)

-- no more pairs are held than there are
pub at_most_all : (size : ℕ) (m : ℕ → ℕ → Bool) → pairs_held size m ≤ all_pairs size
at_most_all size m = sum_le size (λ z. count_passing bits_end (m z)) (λ z. count_passing bits_end (λ y. true))
    (λ z l. count_le bits_end (m z) (λ y. true) (λ y h. refl))

-- as many are held in one way as in another, if the same are
pub as-many-held : (size : ℕ) (r m : ℕ → ℕ → Bool) → ((x y : ℕ) → x < size → r x y ≡ m x y) → pairs_held size r ≡ pairs_held size m
as-many-held size r m h = sum-same size (λ z. count_passing bits_end (r z)) (λ z. count_passing bits_end (m z))
    (λ z l. ap (λ (s : ℕ → Bool). count_passing bits_end s) (λ i y. h z y l i))

-- words end at 2^32
pub bits_end_is : bits_end ≡ 4294967296
unfolding bits_end
bits_end_is = refl
