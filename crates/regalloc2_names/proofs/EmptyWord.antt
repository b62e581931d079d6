-- A class has no register in a set exactly where its word is 0.
use Rattle.std.proofs.Common.{ℕ, ◌≡◌, ◌<◌, ◌^◌, true, false, arith, refl, eqb-true, eq-eqb, nat_eq, w64, inl, inr}
use Rattle.std.specs.Prelude.{slice_index, IsTrue, ◌↔◌, ◌≢◌, ◌⊎◌}
use Rattle.std.specs.Int.{bit_at, trailing_zeros}
use Rattle.std.proofs.lemmas.Bool.{cases_eq}
use Rattle.std.proofs.lemmas.Nat.Bits.{bit_at-trailing_zeros, bit_at-zero}
use Rattle.regalloc2_names.specs.declared.RegClass.{RegClass}
use Rattle.regalloc2_names.specs.declared.sets.PRegSet.{PRegSet}
use Rattle.regalloc2_names.specs.Register.{Register, class_code, has_register}

no_bits : (w : ℕ) → w < 2 ^ 64 → ((n : ℕ) → nat_eq (bit_at w n) 1 ≡ false) → ((w ≡ 0) ⊎ (w ≢ 0)) → w ≡ 0
no_bits w fits none (inl e) = e
no_bits w fits none (inr ne) =
    let t = bit_at-trailing_zeros w64 w (omega arith) fits in
    let no = none (trailing_zeros w64 w) in
    let yes : nat_eq (bit_at w (trailing_zeros w64 w)) 1 ≡ true = eq-eqb _ _ t.1 in
    absurd cc

-- the word of a class in a set is 0 exactly if the set has no register of that class
pub empty_word : (s : PRegSet) (c : RegClass) → ((i : ℕ) → slice_index s.bits i < 18446744073709551616) →
    IsTrue (nat_eq (slice_index s.bits (class_code c)) 0) ↔ ((r : Register) → r.class ≡ c → has_register s r ≡ false)
unfolding has_register
empty_word s c fits = (
  λ h r e. let z = eqb-true _ _ h in rw (e, z, bit_at-zero r.number) refl,
  λ none. eq-eqb _ _ (no_bits (slice_index s.bits (class_code c)) (fits (class_code c)) (λ n. none (record { number = n; class = c }) refl) (cases_eq _ _)),
)
