-- Lemmas on the first number that passes a test.
use Rattle.std.proofs.Common.{ℕ, ◌≡◌, ◌<◌, ◌+◌, ◌-◌, suc, Bool, true, false, if◌then◌else◌, refl, sym, subst, arith}
use Rattle.regalloc2_c.specs.Payload.{as_word, none}
use Rattle.regalloc2_c.specs.Faults.{first_index}

-- a number that fails the test is passed over
pub first_skipped : (test : ℕ → Bool) (k n : ℕ) → k < n → test k ≡ false → first_index test k (n - k) ≡ first_index test (k + 1) (n - (k + 1))
first_skipped test k n h fails =
    let e : n - k ≡ suc (n - (k + 1)) = omega arith in
    let next : suc k ≡ k + 1 = omega arith in
    subst (λ m. first_index test k m ≡ first_index test (k + 1) (n - (k + 1))) (sym e)
    (subst (λ b. (if b then as_word k else first_index test (suc k) (n - (k + 1))) ≡ first_index test (k + 1) (n - (k + 1))) (sym fails)
    (subst (λ j. first_index test (suc k) (n - (k + 1)) ≡ first_index test j (n - (k + 1))) next refl))

-- a number that passes is the first
pub first_found : (test : ℕ → Bool) (k n : ℕ) → k < n → test k ≡ true → first_index test k (n - k) ≡ as_word k
first_found test k n h passes =
    let e : n - k ≡ suc (n - (k + 1)) = omega arith in
    subst (λ m. first_index test k m ≡ as_word k) (sym e)
    (subst (λ b. (if b then as_word k else first_index test (suc k) (n - (k + 1))) ≡ as_word k) (sym passes) refl)

pub none_left : (test : ℕ → Bool) (k n : ℕ) → n - k ≡ 0 → first_index test k (n - k) ≡ none
none_left test k n e = subst (λ m. first_index test k m ≡ none) (sym e) refl
