-- How many members a set of registers of one class has.
use Rattle.std.proofs.Common.{ℕ, zero, suc, ◌≡◌, ◌+◌, ◌<◌, Bool, true, false, List, ◌++◌, length, refl, ap, ◌∙◌, arith, inl, inr, length-append}
use Rattle.std.specs.Prelude.{nat_eq, slice_index, if◌then◌else◌}
use Rattle.std.specs.Int.{bit_at}
use Rattle.std.proofs.lemmas.Bool.{cases_Bool}
use Rattle.regalloc2_names.specs.declared.RegClass.{RegClass}
use Rattle.regalloc2_names.specs.declared.RegClass.TheVariants.{Int, Float, Vector}
use Rattle.regalloc2_names.specs.declared.sets.PRegSet.{PRegSet}
use Rattle.regalloc2_names.specs.Register.{Register, class_code, has_register, word_members, registers_of, registers_of_words}
use Rattle.regalloc2_semantics.specs.Fits.{register_number}
use Rattle.regalloc2_function.specs.Machine.{count_below}
use Rattle.regalloc2_fastalloc_state.proofs.CountingLaws.{count_none}

count_suc : (q : ℕ → Bool) (j : ℕ) → count_below q (suc j) ≡ (if q j then 1 else 0) + count_below q j
unfolding count_below
count_suc q j = refl

count_zero : (q : ℕ → Bool) → count_below q 0 ≡ 0
unfolding count_below
count_zero q = refl

-- the members of a word from k on are those below k + n that aren't below k
word_counted : (c : RegClass) (w k n : ℕ) → count_below (λ j. nat_eq (bit_at w j) 1) k + length (word_members c k n w) ≡ count_below
    (λ j. nat_eq (bit_at w j) 1) (k + n)
unfolding word_members
word_counted c w k zero =
    let e : k ≡ k + 0 = omega arith in
    let f : count_below (λ j. nat_eq (bit_at w j) 1) k ≡ count_below (λ j. nat_eq (bit_at w j) 1) (k + 0) = ap (count_below (λ j. nat_eq (bit_at w j) 1)) e in
    omega (arith, f)
word_counted c w k (suc n) =
    let more : k + 1 + n ≡ k + suc n = omega arith in
    let rest : count_below (λ j. nat_eq (bit_at w j) 1) (k + 1) + length (word_members c (k + 1) n w) ≡ count_below (λ j. nat_eq (bit_at w j) 1) (k + suc n) =
    word_counted c w (k + 1) n ∙ ap (count_below (λ j. nat_eq (bit_at w j) 1)) more in
    let one : k + 1 ≡ suc k = omega arith in
    let step : count_below (λ j. nat_eq (bit_at w j) 1) (k + 1) ≡ (if nat_eq (bit_at w k) 1 then 1 else 0) + count_below (λ j. nat_eq (bit_at w j) 1)
    k = ap (count_below (λ j. nat_eq (bit_at w j) 1)) one ∙ count_suc (λ j. nat_eq (bit_at w j) 1) k in
    elim (cases_Bool (nat_eq (bit_at w k) 1)) [
      | inl e ↦ rw e (let s : count_below (λ j. nat_eq (bit_at w j) 1) (k + 1) ≡ 1 + count_below (λ j. nat_eq (bit_at w j) 1) k = rw e at step in
          omega (arith, rest, s))
      | inr e ↦ rw e (let s : count_below (λ j. nat_eq (bit_at w j) 1) (k + 1) ≡ 0 + count_below (λ j. nat_eq (bit_at w j) 1) k = rw e at step in
          omega (arith, rest, s))
    ]

-- a word of which no bit is set has no members
no_members : (c : RegClass) (w : ℕ) → ((j : ℕ) → j < 64 → nat_eq (bit_at w j) 1 ≡ false) → length (word_members c 0 64 w) ≡ 0
no_members c w h =
    let all = word_counted c w 0 64 in
    let none : count_below (λ j. nat_eq (bit_at w j) 1) 64 ≡ 0 = count_none (λ j. nat_eq (bit_at w j) 1) 64 h in
    let begin : count_below (λ j. nat_eq (bit_at w j) 1) 0 ≡ 0 = count_zero (λ j. nat_eq (bit_at w j) 1) in
    omega (arith, all, none, begin)

-- the members of three words
in_words : (a b d : ℕ) → length (registers_of_words a b d) ≡ length (word_members Int 0 64 a) + (length (word_members Float 0 64 b) + length
    (word_members Vector 0 64 d))
unfolding registers_of_words
in_words a b d = by_lists (word_members Int 0 64 a) (word_members Float 0 64 b) (word_members Vector 0 64 d)
  where
    by_lists : (xs ys zs : List Register) → length ((xs ++ ys) ++ zs) ≡ length xs + (length ys + length zs)
    by_lists xs ys zs = (let e = length-append (xs ++ ys) zs in let f = length-append xs ys in omega (arith, e, f))

-- a set without registers of a class has none in its word
empty_word : (s : PRegSet) (c k : RegClass) → (k ≡ c → ⊥) → ((r : Register) → has_register s r ≡ true → r.class ≡ c) →
    length (word_members k 0 64 (slice_index s.bits (class_code k))) ≡ 0
unfolding has_register
empty_word s c k ne only = no_members k (slice_index s.bits (class_code k))
    (λ j lt. elim (cases_Bool (nat_eq (bit_at (slice_index s.bits (class_code k)) j) 1)) [
      | inl e ↦ absurd (ne (only (register_number k j) e))
      | inr e ↦ e
    ])

-- the word of a class has as many members as there are numbers in the set
full_word : (s : PRegSet) (k : RegClass) → length (word_members k 0 64 (slice_index s.bits (class_code k))) ≡ count_below
    (λ n. has_register s (register_number k n)) 64
unfolding has_register
full_word s k =
    let all = word_counted k (slice_index s.bits (class_code k)) 0 64 in
    let begin = count_zero (λ j. nat_eq (bit_at (slice_index s.bits (class_code k)) j) 1) in
    omega (arith, all, begin)

-- a set with registers of one class alone has as many members as there are numbers
pub members_of_class : (s : PRegSet) (c : RegClass) → ((r : Register) → has_register s r ≡ true → r.class ≡ c) →
    length (registers_of s) ≡ count_below (λ n. has_register s (register_number c n)) 64
members_of_class s c only = parts ∙ by_class c only
  where
    count_of : RegClass → ℕ
    count_of k = length (word_members k 0 64 (slice_index s.bits (class_code k)))

    parts : length (registers_of s) ≡ count_of Int + (count_of Float + count_of Vector)
    parts = in_words (slice_index s.bits 0) (slice_index s.bits 1) (slice_index s.bits 2)

    by_class : (k : RegClass) → ((r : Register) → has_register s r ≡ true → r.class ≡ k) →
        count_of Int + (count_of Float + count_of Vector) ≡ count_below (λ n. has_register s (register_number k n)) 64
    by_class Int h = (let a = full_word s Int in let b = empty_word s Int Float (λ e. absurd cc) h in let d = empty_word s Int Vector (λ e. absurd cc) h in
        omega (arith, a, b, d))
    by_class Float h = (let a = full_word s Float in let b = empty_word s Float Int (λ e. absurd cc) h in
        let d = empty_word s Float Vector (λ e. absurd cc) h in omega (arith, a, b, d))
    by_class Vector h = (let a = full_word s Vector in let b = empty_word s Vector Int (λ e. absurd cc) h in
        let d = empty_word s Vector Float (λ e. absurd cc) h in omega (arith, a, b, d))
