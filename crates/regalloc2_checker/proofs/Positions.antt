-- Positions in lists of numbers.
use Rattle.std.proofs.Common.{ℕ, zero, suc, ◌≡◌, ◌+◌, ◌-◌, ◌<◌, arith, nat_eq, List, length, get_or, refl, subst}
use Rattle.std.specs.Prelude.{Some}
use Rattle.std.specs.List.{position}
use Rattle.std.specs.List.Sorted.{IsStrictlyIncreasing}
use Rattle.std.proofs.lemmas.Bool.{eqb-true}
use Rattle.std.proofs.lemmas.List.Quantifiers.{position-Some}

-- what a position says
pub at-position : (xs : List ℕ) (x i : ℕ) → position (λ n. nat_eq n x) xs ≡ Some i → (i < length xs) × (get_or xs i 0 ≡ x)
at-position xs x i e = let s = position-Some (λ n. nat_eq n x) xs i 0 e in (s.0, eqb-true (get_or xs i 0) x s.1)

further : (xs : List ℕ) → IsStrictlyIncreasing xs → (n i j : ℕ) → j ≡ i + 1 + n → j < length xs → get_or xs i 0 < get_or xs j 0
further xs h zero i j e less =
    let d : i + 1 ≡ j = omega arith in
    subst (λ (k : ℕ). get_or xs i 0 < get_or xs k 0) d (h i (omega arith))
further xs h (suc n) i j e less =
    let m : ℕ = i + 1 + n in
    let d : m + 1 ≡ j = omega arith in
    let a : get_or xs i 0 < get_or xs m 0 = further xs h n i m refl (omega arith) in
    let b : get_or xs m 0 < get_or xs (m + 1) 0 = h m (omega arith) in
    subst (λ (k : ℕ). get_or xs i 0 < get_or xs k 0) d (omega arith)

-- numbers rise
pub rising : (xs : List ℕ) → IsStrictlyIncreasing xs → (i j : ℕ) → i < j → j < length xs → get_or xs i 0 < get_or xs j 0
rising xs h i j l less = further xs h (j - i - 1) i j (omega arith) less
