-- What tests of numbers say.
use Rattle.std.proofs.Common.{◌≡◌, ℕ, ◌<◌, ◌≤◌, true, false, nat_eq, arith}
use Rattle.std.specs.Prelude.{◌≢◌, nat_lt}
use Rattle.std.proofs.lemmas.Bool.Decides.{nat_tests}

pub is-below : (m n : ℕ) → nat_lt m n ≡ true → m < n
is-below m n e = grind (arith, nat_tests)

pub is-past : (m n : ℕ) → nat_lt m n ≡ false → n ≤ m
is-past m n e = grind (arith, nat_tests)

pub is-same : (m n : ℕ) → nat_eq m n ≡ true → m ≡ n
is-same m n e = grind (arith, nat_tests)

pub is-other : (m n : ℕ) → nat_eq m n ≡ false → m ≢ n
is-other m n e = grind (arith, nat_tests)

pub not-same : (m n : ℕ) → m ≢ n → nat_eq m n ≡ false
not-same m n apart = grind (arith, nat_tests)

pub yes-same : (n : ℕ) → nat_eq n n ≡ true
yes-same n = grind (arith, nat_tests)
