-- Numbers that are no words of 32 bits, among others.
use Rattle.std.proofs.Common.{ℕ, zero, suc, ◌≡◌, ◌<◌, List, [], ◌∷◌, ◌++◌, length, slice_index_or, arith, sym, ◌∙◌, ap, append_assoc}
use Rattle.std.proofs.Common.{subst}
use Rattle.std.specs.List.{flat_map}
use Rattle.regalloc2_serialize.specs.Flat.Flat.{HasLongWord, words_of_list}

-- in front of others
pub long_before : (a b : List ℕ) → HasLongWord a → HasLongWord (a ++ b)
long_before a b h = record {
  before = h.before;
  number = h.number;
  after = h.after ++ b;
  parts = ap (λ x. x ++ b) h.parts ∙ append_assoc h.before (h.number ∷ h.after) b;
  is_long = h.is_long;
}

-- behind others
pub long_after : (a b : List ℕ) → HasLongWord b → HasLongWord (a ++ b)
long_after a b h = record {
  before = a ++ h.before;
  number = h.number;
  after = h.after;
  parts = ap (λ x. a ++ x) h.parts ∙ sym (append_assoc a h.before (h.number ∷ h.after));
  is_long = h.is_long;
}

-- among the words of a member
pub long_member : {A : Type 0} (u : A → List ℕ) (xs : List A) (i : ℕ) (x : A) → i < length xs → x ≡ slice_index_or xs i x → HasLongWord (u x) →
    HasLongWord (flat_map u xs)
long_member u [] i x l e h = absurd (omega arith)
long_member u (y ∷ ys) zero x l e h = long_before (u y) (flat_map u ys) (subst (λ z. HasLongWord (u z)) e h)
long_member u (y ∷ ys) (suc i) x l e h =
    let within : i < length ys = omega arith in
    long_after (u y) (flat_map u ys) (long_member u ys i x within e h)

pub long_in_list : {A : Type 0} (u : A → List ℕ) (xs : List A) → HasLongWord (flat_map u xs) → HasLongWord (words_of_list u xs)
long_in_list u xs h = long_after (length xs ∷ []) (flat_map u xs) h

-- in one of the five parts of an output's words
pub long_in_first : (a b c d e : List ℕ) → HasLongWord a → HasLongWord (a ++ (b ++ (c ++ (d ++ e))))
long_in_first a b c d e h = long_before a (b ++ (c ++ (d ++ e))) h

pub long_in_second : (a b c d e : List ℕ) → HasLongWord b → HasLongWord (a ++ (b ++ (c ++ (d ++ e))))
long_in_second a b c d e h = long_after a (b ++ (c ++ (d ++ e))) (long_before b (c ++ (d ++ e)) h)

pub long_in_third : (a b c d e : List ℕ) → HasLongWord c → HasLongWord (a ++ (b ++ (c ++ (d ++ e))))
long_in_third a b c d e h = long_after a (b ++ (c ++ (d ++ e))) (long_after b (c ++ (d ++ e)) (long_before c (d ++ e) h))

pub long_in_fourth : (a b c d e : List ℕ) → HasLongWord d → HasLongWord (a ++ (b ++ (c ++ (d ++ e))))
long_in_fourth a b c d e h = long_after a (b ++ (c ++ (d ++ e))) (long_after b (c ++ (d ++ e)) (long_after c (d ++ e) (long_before d e h)))

pub long_in_fifth : (a b c d e : List ℕ) → HasLongWord e → HasLongWord (a ++ (b ++ (c ++ (d ++ e))))
long_in_fifth a b c d e h = long_after a (b ++ (c ++ (d ++ e))) (long_after b (c ++ (d ++ e)) (long_after c (d ++ e) (long_after d e h)))
