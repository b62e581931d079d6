-- A table of the moves of a call by destination: which source each has.
use Rattle.std.proofs.Common.{ℕ, ◌≡◌, ◌<◌, ◌+◌, Bool, true, false, cond, Option, None, Some, nat_eq, refl, sym, ap, ◌∙◌, inl, inr, ◌⊎◌, ⊎_elim, subst}
use Rattle.std.proofs.Common.{arith, eqb-true, eq-eqb}
use Rattle.regalloc2_index.proofs.Numbers.{below_or_last}
use Rattle.regalloc2_names.specs.Place.{Place}
use Rattle.regalloc2_names.specs.PlaceBits.{bits_of_place, place_of_bits}
use Rattle.regalloc2_parts.specs.AtOnce.{IsPlace}
use Rattle.regalloc2_parts.specs.Callmoves.CallMoves.{CallMoves, source, target, HasNone, HasOtherSource}

abbrev pub Words : Type 0
Words = ℕ → Option ℕ

abbrev pub from_word : CallMoves → ℕ → ℕ
from_word ms k = bits_of_place (source ms k)

abbrev pub to_word : CallMoves → ℕ → ℕ
to_word ms k = bits_of_place (target ms k)

-- the table has just the words of the first n moves
pub record IsTable (ms : CallMoves) (n : ℕ) (t : Words) : Type 0 where
  pub there : (j : ℕ) → j < n → t (to_word ms j) ≡ Some (from_word ms j)
  pub back : (w v : ℕ) → t w ≡ Some v → (j : ℕ) × (j < n) × (w ≡ to_word ms j) × (v ≡ from_word ms j)
  pub words : (j : ℕ) → j < n → IsPlace (source ms j) × IsPlace (target ms j)

some_word : (a b : ℕ) → ◌≡◌ {A = Option ℕ} (Some a) (Some b) → a ≡ b
some_word a b e = cc

module _ (ms : CallMoves) (n : ℕ) (t u : Words) (h : IsTable ms n t) (from : IsPlace (source ms n)) (to : IsPlace (target ms n))
    (put : (w : ℕ) → u w ≡ cond (nat_eq (to_word ms n) w) (Some (from_word ms n)) (t w))
    (old : (t (to_word ms n) ≡ None) ⊎ (t (to_word ms n) ≡ Some (from_word ms n))) where
  put_here : (w : ℕ) → to_word ms n ≡ w → u w ≡ Some (from_word ms n)
  put_here w e = put w ∙ ap (λ b. cond b (Some (from_word ms n)) (t w)) (eq-eqb (to_word ms n) w e)

  put_case : (w : ℕ) (b : Bool) → nat_eq (to_word ms n) w ≡ b → ((to_word ms n ≡ w) × (u w ≡ Some (from_word ms n))) ⊎ (u w ≡ t w)
  put_case w true e = inl (eqb-true (to_word ms n) w e, put_here w (eqb-true (to_word ms n) w e))
  put_case w false e = inr (put w ∙ ap (λ b. cond b (Some (from_word ms n)) (t w)) e)

  kept : (j : ℕ) → j < n → u (to_word ms j) ≡ Some (from_word ms j)
  kept j lt = ⊎_elim
      (λ here. ⊎_elim
      (λ none. let no : None ≡ Some (from_word ms j) = sym none ∙ ap t here.0 ∙ h.there j lt in absurd cc)
      (λ some. here.1 ∙ sym some ∙ ap t here.0 ∙ h.there j lt)
      old)
      (λ same. same ∙ h.there j lt)
      (put_case (to_word ms j) (nat_eq (to_word ms n) (to_word ms j)) refl)

  all_there : (j : ℕ) → j < n + 1 → (j < n) ⊎ (j ≡ n) → u (to_word ms j) ≡ Some (from_word ms j)
  all_there j lt (inl less) = kept j less
  all_there j lt (inr same) = subst (λ i. u (to_word ms i) ≡ Some (from_word ms i)) (sym same) (put_here (to_word ms n) refl)

  all_words : (j : ℕ) → (j < n) ⊎ (j ≡ n) → IsPlace (source ms j) × IsPlace (target ms j)
  all_words j (inl less) = h.words j less
  all_words j (inr same) = subst (λ i. IsPlace (source ms i) × IsPlace (target ms i)) (sym same) (from, to)

  -- with the words of move n put in, the table has the words of the first n + 1 moves
  pub table_more : IsTable ms (n + 1) u
  table_more = record {
    there = λ j lt. all_there j lt (below_or_last j n lt);
    back = λ w v e. ⊎_elim
        (λ here. (n, (omega arith), sym here.0, some_word v (from_word ms n) (sym e ∙ here.1)))
        (λ same. let j = h.back w v (sym same ∙ e) in (j.0, (omega (arith, j.1)), j.2, j.3))
        (put_case w (nat_eq (to_word ms n) w) refl);
    words = λ j lt. all_words j (below_or_last j n lt);
  }

-- no move of the table has the destination of an earlier one and another source
pub none_before : (ms : CallMoves) (n : ℕ) (t : Words) → IsTable ms n t → HasNone n (HasOtherSource ms)
none_before ms n t h k less other =
    let j = other.0 in
    let low : j < n = omega (arith, other.1) in
    let same : from_word ms j ≡ from_word ms k = some_word (from_word ms j) (from_word ms k)
    (sym (h.there j low) ∙ ap (λ (p : Place). t (bits_of_place p)) other.2 ∙ h.there k less) in
    other.3 (sym (h.words j low).0 ∙ ap place_of_bits same ∙ (h.words k less).0)

-- v is the word of the place p, which is q, and gives it back
pub record IsWordOf (v : ℕ) (p q : Place) : Type 0 where
  pub is : p ≡ q
  pub bits : v ≡ bits_of_place p
  pub back : place_of_bits v ≡ p

-- a place whose word gives it back
place_is : (v : ℕ) (p q : Place) → IsWordOf v p q → IsPlace q
place_is v p q h = subst IsPlace h.is (ap place_of_bits (sym h.bits) ∙ h.back)

module _ (ms : CallMoves) (n : ℕ) (t : Words) (p q : Place) (v w : ℕ) (h : IsTable ms n t) (from : IsWordOf v p (source ms n))
    (to : IsWordOf w q (target ms n)) where
  v_is : v ≡ from_word ms n
  v_is = from.bits ∙ ap bits_of_place from.is

  w_is : w ≡ to_word ms n
  w_is = to.bits ∙ ap bits_of_place to.is

  -- the table with a move more
  pub table_with : (u : Words) → ((x : ℕ) → u x ≡ cond (nat_eq w x) (Some v) (t x)) → (t w ≡ None) ⊎ (t w ≡ Some v) → IsTable ms (n + 1) u
  table_with u put old = table_more ms n t u h (place_is v p (source ms n) from) (place_is w q (target ms n) to)
      (λ x. put x ∙ ap (λ k. cond (nat_eq k x) (Some v) (t x)) w_is ∙ ap (λ k. cond (nat_eq (to_word ms n) x) (Some k) (t x)) v_is)
      (⊎_elim (λ a. inl (ap t (sym w_is) ∙ a)) (λ b. inr (ap t (sym w_is) ∙ b ∙ ap Some v_is)) old)

  -- where the table has another word, the move has another source
  pub table_differs : (u : ℕ) → t w ≡ Some u → (u ≡ v → ⊥) → HasOtherSource ms n
  table_differs u has apart =
      let j = h.back w u has in
      let low : j.0 < n = j.1 in (
        j.0,
        low,
        sym (h.words j.0 low).1 ∙ ap place_of_bits (sym j.2 ∙ w_is) ∙ place_is w q (target ms n) to,
        λ e. apart (j.3 ∙ ap bits_of_place e ∙ sym v_is),
      )
