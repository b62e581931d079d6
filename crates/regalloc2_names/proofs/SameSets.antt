-- Sets with the same registers have the same words.
use Rattle.std.proofs.Common.{ℕ, Bool, zero, suc, ◌≡◌, ◌<◌, ◌^◌, true, refl, sym, ap, ◌∙◌, arith, nat_eq, length}
use Rattle.std.specs.Prelude.{slice_index, ◌↔◌, IsTrue}
use Rattle.std.specs.Bool.{Decides}
use Rattle.std.proofs.lemmas.Bool.Decides.{same_from_decides}
use Rattle.std.proofs.lemmas.Grind.{same_number_lists}
use Rattle.std.proofs.lemmas.Nat.Bits.{bit_at-lt, same_from_bits_below}
use Rattle.std.proofs.lemmas.Slice.Eq.{slice_eq-Decides}
use Rattle.regalloc2_names.specs.declared.RegClass.{RegClass}
use Rattle.regalloc2_names.specs.declared.RegClass.TheVariants.{Int, Float, Vector}
use Rattle.regalloc2_names.specs.declared.sets.PRegSet.{PRegSet}
use Rattle.regalloc2_names.specs.Register.{Register, class_code, is_register, has_register, registers_of}
use Rattle.regalloc2_names.specs.Listed.{is_listed, listed_is, has_register-small}
use Rattle.regalloc2_names.specs.Same.{is_register-true, is_register-same}
use Rattle.regalloc2_names.specs.SameSet.{is_same_set}

bit_from_test : (m n : ℕ) → m < 2 → n < 2 → nat_eq m 1 ≡ nat_eq n 1 → m ≡ n
bit_from_test zero zero hm hn h = refl
bit_from_test zero (suc zero) hm hn h = absurd cc
bit_from_test (suc zero) zero hm hn h = absurd cc
bit_from_test (suc zero) (suc zero) hm hn h = refl
bit_from_test (suc (suc m)) n hm hn h = absurd (omega arith)
bit_from_test m (suc (suc n)) hm hn h = absurd (omega arith)

-- two sets with the same registers have the same words
pub same_word : (s t : PRegSet) → ((i : ℕ) → slice_index s.bits i < 2 ^ 64) → ((i : ℕ) → slice_index t.bits i < 2 ^ 64) →
    ((r : Register) → has_register s r ≡ has_register t r) → (c : RegClass) → slice_index s.bits (class_code c) ≡ slice_index t.bits (class_code c)
unfolding has_register
same_word s t fs ft h c =
    same_from_bits_below 64 _ _ (fs (class_code c)) (ft (class_code c))
    (λ i l. bit_from_test _ _ (bit_at-lt _ i) (bit_at-lt _ i) (h (record { number = i; class = c })))

same_words : (s t : PRegSet) → ((i : ℕ) → slice_index s.bits i < 2 ^ 64) → ((i : ℕ) → slice_index t.bits i < 2 ^ 64) → length s.bits ≡ 3 → length t.bits ≡ 3 →
    ((r : Register) → has_register s r ≡ has_register t r) → s.bits ≡ t.bits
same_words s t fs ft ls lt h = same_number_lists s.bits t.bits (ls ∙ sym lt) at_word
  where
    at_word : (k : ℕ) → k < length s.bits → slice_index s.bits k ≡ slice_index t.bits k
    at_word zero l = same_word s t fs ft h Int
    at_word (suc zero) l = same_word s t fs ft h Float
    at_word (suc (suc zero)) l = same_word s t fs ft h Vector
    at_word (suc (suc (suc k))) l = absurd (omega (arith, ls, l))

-- sets whose lists of registers are the same have the same registers
same_members : (s t : PRegSet) → ((i : ℕ) → slice_index s.bits i < 2 ^ 64) → ((i : ℕ) → slice_index t.bits i < 2 ^ 64) → registers_of s ≡ registers_of t →
    (r : Register) → has_register s r ≡ has_register t r
same_members s t fs ft e r =
    same_from_decides {P = has_register t r ≡ true} (has_register s r) (has_register t r) (
      λ h. (listed_is t r (rw e at (is_listed s r (has_register-small s fs r h) h))).1,
      λ h. (listed_is s r (rw (← e) at (is_listed t r (has_register-small t ft r h) h))).1,
    )
    (λ h. h, λ h. h)

same_listed : (s t : PRegSet) → s.bits ≡ t.bits → registers_of s ≡ registers_of t
same_listed s t e = rw e refl

same_register : (a b : Register) → Decides (is_register a b) (a ≡ b)
same_register a b = (is_register-true a b, λ e. ap (λ x. is_register a x) (sym e) ∙ is_register-same a)

-- sets with the same words have the same registers
same_has : (s t : PRegSet) → s.bits ≡ t.bits → (r : Register) → has_register s r ≡ has_register t r
unfolding has_register
same_has s t e r = rw e refl

-- the three words of two sets are equal
abbrev pub HasSameWords : PRegSet → PRegSet → Type 0
HasSameWords s t =
    (slice_index s.bits 0 ≡ slice_index t.bits 0) × (slice_index s.bits 1 ≡ slice_index t.bits 1) × (slice_index s.bits 2 ≡ slice_index t.bits 2)

same_bits : (s t : PRegSet) → length s.bits ≡ 3 → length t.bits ≡ 3 → HasSameWords s t → s.bits ≡ t.bits
same_bits s t ls lt h = same_number_lists s.bits t.bits (ls ∙ sym lt) at_word
  where
    at_word : (k : ℕ) → k < length s.bits → slice_index s.bits k ≡ slice_index t.bits k
    at_word zero l = h.0
    at_word (suc zero) l = h.1
    at_word (suc (suc zero)) l = h.2
    at_word (suc (suc (suc k))) l = absurd (omega (arith, ls, l))

words_same : (s t : PRegSet) → s.bits ≡ t.bits → HasSameWords s t
words_same s t e = rw e (refl, refl, refl)

-- a test of the words accepts two sets exactly if they list the same registers, and exactly if each register is in both or in neither
pub test_exact : (s t : PRegSet) → ((i : ℕ) → slice_index s.bits i < 2 ^ 64) → ((i : ℕ) → slice_index t.bits i < 2 ^ 64) → length s.bits ≡ 3 →
    length t.bits ≡ 3 → (b : Bool) → Decides b (HasSameWords s t) →
    (b ≡ is_same_set s t) × (IsTrue b ↔ ((r : Register) → has_register s r ≡ has_register t r))
test_exact s t fs ft ls lt b w =
    let l = slice_eq-Decides same_register (registers_of s) (registers_of t) (is_same_set s t) refl in (
      same_from_decides {P = registers_of s ≡ registers_of t} _ _
          (λ h. same_listed s t (same_bits s t ls lt (w.0 h)), λ e. w.1 (words_same s t (same_words s t fs ft ls lt (same_members s t fs ft e))))
          l,
      (λ h. same_has s t (same_bits s t ls lt (w.0 h)), λ h. w.1 (words_same s t (same_words s t fs ft ls lt h))),
    )
