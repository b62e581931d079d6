-- Lemmas on numbers that std lacks.
use Rattle.std.proofs.Common.{arith, ℕ, ◌+◌, ◌<◌, ◌≡◌, ◌⊎◌, eq-eqb, nat_eq, refl, true}

-- a number below `m + 1` is below `m` or is `m`
pub below_or_last : (k m : ℕ) → k < m + 1 → (k < m) ⊎ (k ≡ m)
below_or_last k m lt = grind arith

-- the test of equality accepts a number with itself
pub nat_eq-self : (n : ℕ) → nat_eq n n ≡ true
nat_eq-self n = eq-eqb n n refl
