-- Sizes of slots from logarithms.
use Rattle.std.proofs.Common.{◌≡◌, ◌∙◌, ℕ, ◌+◌, ◌*◌, ◌%◌, ◌<◌, ◌≤◌, ◌^◌, ap, arith, eq-eqb}
use Rattle.std.specs.Prelude.{IsTrue}
use Rattle.std.specs.Int.{is_power_of_two}
use Rattle.std.specs.Int.Count.{ones, ones-ones}
use Rattle.std.proofs.lemmas.Nat.{ones_cat}
use Rattle.std.proofs.Math.Nat.{one-le-pow, pow-le-pow_right}

pub power-positive : (k : ℕ) → 1 ≤ 2 ^ k
power-positive k = one-le-pow k 2 (omega arith)

pub power-small : (k : ℕ) → k ≤ 24 → 2 ^ k ≤ 2 ^ 24
power-small k small = pow-le-pow_right {n = 2} (omega arith) {i = k} {j = 24} small

-- a power of two has one digit that is set
pub power-of-two : (k : ℕ) → IsTrue (is_power_of_two (2 ^ k))
power-of-two k =
    let apart : 2 ^ k ≡ 1 * 2 ^ k + 0 = omega arith in
    let low : 0 < 2 ^ k = omega (arith, power-positive k) in
    let one : ones 1 ≡ 1 = ones-ones 1 in
    let none : ones 0 ≡ 0 = ones-ones 0 in
    let all : ones (2 ^ k) ≡ 1 = ap ones apart ∙ ones_cat k 1 0 low ∙ omega (arith, one, none) in
    eq-eqb _ _ all

-- a size is shifted whole
pub power-whole : (k : ℕ) → k ≤ 24 → 1 * 2 ^ k % 18446744073709551616 ≡ 2 ^ k
power-whole k small = omega (arith, power-small k small)
