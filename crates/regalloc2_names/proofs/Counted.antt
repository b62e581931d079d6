-- A word has as many members as bits that are set.
use Rattle.std.proofs.Common.{ℕ, zero, suc, ◌≡◌, ◌<◌, ◌+◌, ◌/◌, ◌^◌, refl, arith, ◌∙◌, length, List, ◌∷◌, ◌++◌, cond, nat_eq, length-append}
use Rattle.std.specs.Prelude.{slice_index}
use Rattle.std.specs.Int.{bit_at}
use Rattle.std.specs.Int.Count.{ones, ones_step, ones-ones}
use Rattle.std.proofs.lemmas.Nat.{shr-shr, shr_below}
use Rattle.std.proofs.lemmas.Nat.Bits.{bit_at-lt}
use Rattle.regalloc2_names.specs.declared.RegClass.{RegClass}
use Rattle.regalloc2_names.specs.declared.RegClass.TheVariants.{Int, Float, Vector}
use Rattle.regalloc2_names.specs.declared.sets.PRegSet.{PRegSet}
use Rattle.regalloc2_names.specs.Register.{Register, registers_of, registers_of_words, word_members}

no_ones : (n : ℕ) → n < 1 → ones n ≡ 0
no_ones zero h = ones-ones 0
no_ones (suc n) h = absurd (omega arith)

one_more : (b : ℕ) (x : Register) (xs : List Register) → b < 2 → length (cond (nat_eq b 1) (x ∷ xs) xs) ≡ b + length xs
one_more zero x xs h = omega arith
one_more (suc zero) x xs h = omega arith
one_more (suc (suc b)) x xs h = absurd (omega arith)

members_ones : (class : RegClass) (n k w : ℕ) → w < 2 ^ (k + n) → length (word_members class k n w) ≡ ones (w / 2 ^ k)
unfolding word_members
members_ones class zero k w h =
    let e : k + 0 ≡ 0 + k = omega arith in
    let z = no_ones (w / 2 ^ k) (shr_below w 0 k (rw e at h)) in
    omega (arith, z)
members_ones class (suc n) k w h =
    let e : k + suc n ≡ k + 1 + n = omega arith in
    let rest = members_ones class n (k + 1) w (rw e at h) in
    let step = ones_step (w / 2 ^ k) in
    let half = shr-shr w k 1 in
    let here = one_more (bit_at w k) (record { number = k; class = class }) (word_members class (k + 1) n w) (bit_at-lt w k) in
    here ∙ (rw (rest, step, half) refl)

-- a set has as many members as there are bits set in its three words
pub members_counted : (s : PRegSet) → ((i : ℕ) → slice_index s.bits i < 2 ^ 64) →
    ones (slice_index s.bits 0) + ones (slice_index s.bits 1) + ones (slice_index s.bits 2) ≡ length (registers_of s)
unfolding registers_of_words
members_counted s fits =
    let one : (n : ℕ) → n / 2 ^ 0 ≡ n = λ n. omega arith in
    let a = members_ones Int 64 0 (slice_index s.bits 0) (fits 0) in
    let b = members_ones Float 64 0 (slice_index s.bits 1) (fits 1) in
    let c = members_ones Vector 64 0 (slice_index s.bits 2) (fits 2) in
    rw (
      length-append (word_members Int 0 64 (slice_index s.bits 0) ++ word_members Float 0 64 (slice_index s.bits 1))
          (word_members Vector 0 64 (slice_index s.bits 2)),
      length-append (word_members Int 0 64 (slice_index s.bits 0)) (word_members Float 0 64 (slice_index s.bits 1)),
      a,
      b,
      c,
      one (slice_index s.bits 0),
      one (slice_index s.bits 1),
      one (slice_index s.bits 2),
    ) refl
