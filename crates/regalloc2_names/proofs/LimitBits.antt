-- The exponent of a limit is the number of its trailing zeros.
use Rattle.std.proofs.Common.{ℕ, zero, suc, ◌≡◌, ◌<◌, ◌^◌, ap, arith, eqb-true, nat_eq, refl, w64, ◌∙◌}
use Rattle.std.specs.Prelude.{IsTrue}
use Rattle.std.specs.Int.{trailing_zeros}
use Rattle.regalloc2_names.specs.Packing.{limit_code, limit_code-lt}

zeros_of_power : (k : ℕ) → k < 7 → trailing_zeros w64 (2 ^ k) ≡ k
unfolding lib.Count.count_trailing_zeros
zeros_of_power zero h = refl
zeros_of_power (suc zero) h = refl
zeros_of_power (suc (suc zero)) h = refl
zeros_of_power (suc (suc (suc zero))) h = refl
zeros_of_power (suc (suc (suc (suc zero)))) h = refl
zeros_of_power (suc (suc (suc (suc (suc zero))))) h = refl
zeros_of_power (suc (suc (suc (suc (suc (suc zero)))))) h = refl
zeros_of_power (suc (suc (suc (suc (suc (suc (suc n))))))) h = absurd (omega arith)

-- a limit has as many trailing zeros as its code says
pub zeros_of_limit : (n : ℕ) → IsTrue (nat_eq n (2 ^ limit_code n)) → trailing_zeros w64 n ≡ limit_code n
zeros_of_limit n h = ap (trailing_zeros w64) (eqb-true n (2 ^ limit_code n) h) ∙ zeros_of_power (limit_code n) (limit_code-lt n)
