-- Lemmas on the moves of a call that have been seen so far.
use Rattle.std.proofs.Common.{ℕ, ◌≡◌, ◌≢◌, ◌<◌, ◌≤◌, ◌+◌, true, false, length, get_or, refl, sym, ap, ◌∙◌, inl, inr, ◌⊎◌, ⊎_elim, subst, arith, None, Some}
use Rattle.std.proofs.Common.{suc, take, List, [], ◌∷◌, ◌++◌}
use Rattle.std.proofs.Math.Seq.{take-suc}
use Rattle.std.specs.Prelude.{◌||◌}
use Rattle.std.proofs.lemmas.Bool.{cases_lt, or_cases, or_left, or_right}
use Rattle.std.proofs.lemmas.List.{get_or_default, map-append}
use Rattle.regalloc2_index.proofs.Numbers.{below_or_last}
use Rattle.regalloc2_names.specs.declared.sets.PRegSet.{PRegSet}
use Rattle.regalloc2_names.specs.Place.{Place, NoPlace, InRegister, InSlot, is_place, slot_of_place}
use Rattle.regalloc2_names.specs.PlaceBits.{index_of_place}
use Rattle.regalloc2_names.specs.Register.{Register, invalid_register, is_register, has_register}
use Rattle.regalloc2_names.proofs.EqualNames.{is_place-true, is_place-along}
use Rattle.regalloc2_parts.specs.declared.callmoves.CallFrame.{CallFrame}
use Rattle.regalloc2_parts.specs.Callmoves.Frame.{free_at}
use Rattle.regalloc2_parts.specs.Callmoves.CallMoves.{CallMoves, call_move, source, target, HasNone, NamesNoPlace, MovesName, with_units, IsNotFree, IsLower}

-- a slot's place and its number
pub slot_there : (p : Place) (s : ℕ) → Some s ≡ slot_of_place p → p ≡ InSlot (index_of_place p)
slot_there NoPlace s e = absurd cc
slot_there (InRegister r) s e = absurd cc
slot_there (InSlot n) s e = refl

-- a place without a slot's number is no slot
pub slot_not : (p : Place) → None ≡ slot_of_place p → (n : ℕ) → p ≢ InSlot n
slot_not p e n is = let no : None ≡ Some n = e ∙ ap slot_of_place is in cc

-- a number that isn't above another is below it or it
pub split_le : (a b : ℕ) → a ≤ b → (a < b) ⊎ (a ≡ b)
split_le a b le = ⊎_elim (λ l. inl l) (λ h. inr (omega arith)) (cases_lt a b)

-- the register that is read at an index is the frame's free register there
pub read_free : {A : Type 0} (f : CallFrame A) (k : ℕ) (r : Register) → k < length f.free_regs.items → r ≡ get_or f.free_regs.items k r → r ≡ free_at f k
read_free f k r lt is = is ∙ get_or_default f.free_regs.items k r invalid_register lt

-- a move of a list without errors is from a place and to one
pub move_real : (ms : CallMoves) (k : ℕ) (m : Place × Place) → HasNone (length ms) (NamesNoPlace ms) → k < length ms → m ≡ get_or ms k m →
    (m.0 ≢ NoPlace) × (m.1 ≢ NoPlace)
move_real ms k m h lt is =
    let e : m ≡ call_move ms k = is ∙ get_or_default ms k m (NoPlace, NoPlace) lt in (
      (λ n. h k lt (inl (sym (ap (λ (x : Place × Place). x.0) e) ∙ n))),
      (λ n. h k lt (inr (sym (ap (λ (x : Place × Place). x.1) e) ∙ n))),
    )

-- one of the first n moves is from the place or to it
abbrev pub IsNamedBelow : CallMoves → ℕ → Place → Type 0
IsNamedBelow ms n p = (k : ℕ) × (k < n) × ((source ms k ≡ p) ⊎ (target ms k ≡ p))

-- what the first n moves name, one move more names too
pub named_later : (ms : CallMoves) (n : ℕ) (p : Place) → IsNamedBelow ms n p → IsNamedBelow ms (n + 1) p
named_later ms n p (k, lt, is) = (k, (omega arith), is)

-- a place that move n is from or to is named by the first n + 1
pub named_here : (ms : CallMoves) (n : ℕ) (p : Place) → (source ms n ≡ p) ⊎ (target ms n ≡ p) → IsNamedBelow ms (n + 1) p
named_here ms n p is = (n, (omega arith), is)

-- a move more names a place, or an earlier one did
pub named_split : (ms : CallMoves) (n : ℕ) (p : Place) → IsNamedBelow ms (n + 1) p → (source ms n ≡ p) ⊎ ((target ms n ≡ p) ⊎ IsNamedBelow ms n p)
named_split ms n p (k, lt, is) = by (below_or_last k n lt)
  where
    by : (k < n) ⊎ (k ≡ n) → (source ms n ≡ p) ⊎ ((target ms n ≡ p) ⊎ IsNamedBelow ms n p)
    by (inl less) = inr (inr (k, less, is))
    by (inr same) = ⊎_elim (λ e. inl (ap (source ms) (sym same) ∙ e)) (λ e. inr (inl (ap (target ms) (sym same) ∙ e))) is

-- the set has just the registers that the first n moves name
pub record AreNamed (ms : CallMoves) (n : ℕ) (s : PRegSet) : Type 0 where
  pub yes : (r : Register) → has_register s r ≡ true → IsNamedBelow ms n (InRegister r)
  pub no : (r : Register) → IsNamedBelow ms n (InRegister r) → has_register s r ≡ true

-- with the registers of move n put in, the set has the registers that the first n + 1 moves name
pub named_more : (ms : CallMoves) (n : ℕ) (s t u : PRegSet) → AreNamed ms n s →
    ((r : Register) → has_register t r ≡ (is_place (source ms n) (InRegister r) || has_register s r)) →
    ((r : Register) → has_register u r ≡ (is_place (target ms n) (InRegister r) || has_register t r)) → AreNamed ms (n + 1) u
named_more ms n s t u h first second = record {
  yes = λ r e. ⊎_elim
      (λ a. named_here ms n (InRegister r) (inr (is_place-true (target ms n) (InRegister r) a)))
      (λ a. ⊎_elim
      (λ b. named_here ms n (InRegister r) (inl (is_place-true (source ms n) (InRegister r) b)))
      (λ b. named_later ms n (InRegister r) (h.yes r b))
      (or_cases (is_place (source ms n) (InRegister r)) (has_register s r) (sym (first r) ∙ a)))
      (or_cases (is_place (target ms n) (InRegister r)) (has_register t r) (sym (second r) ∙ e));
  no = λ r x. ⊎_elim
      (λ a. second r ∙ or_right (is_place (target ms n) (InRegister r)) (has_register t r)
      (first r ∙ or_left (is_place (source ms n) (InRegister r)) (has_register s r) (is_place-along (source ms n) (InRegister r) a)))
      (λ y. ⊎_elim
      (λ a. second r ∙ or_left (is_place (target ms n) (InRegister r)) (has_register t r) (is_place-along (target ms n) (InRegister r) a))
      (λ a. second r ∙ or_right (is_place (target ms n) (InRegister r)) (has_register t r)
      (first r ∙ or_right (is_place (source ms n) (InRegister r)) (has_register s r) (h.no r a)))
      y)
      (named_split ms n (InRegister r) x);
}

-- the set has just the registers that are in use before the free register n is
pub record AreTaken {A : Type 0} (ms : CallMoves) (f : CallFrame A) (n : ℕ) (s : PRegSet) : Type 0 where
  pub yes : (r : Register) → has_register s r ≡ true →
      MovesName ms (InRegister r) ⊎ (((j : ℕ) × (j < n) × (free_at f j ≡ r)) ⊎ (has_register f.stack_pregs r ≡ true))
  pub no : (r : Register) → MovesName ms (InRegister r) ⊎ (((j : ℕ) × (j < n) × (free_at f j ≡ r)) ⊎ (has_register f.stack_pregs r ≡ true)) →
      has_register s r ≡ true

register_along : (a b : Register) → is_register a b ≡ true → a ≡ b
register_along a b e = let same : InRegister a ≡ InRegister b = is_place-true (InRegister a) (InRegister b) e in cc

-- with the free register n put in, the set has the registers that are in use before the free register n + 1 is
pub taken_more : {A : Type 0} (ms : CallMoves) (f : CallFrame A) (n : ℕ) (s t : PRegSet) → AreTaken ms f n s →
    ((r : Register) → has_register t r ≡ (is_register (free_at f n) r || has_register s r)) → AreTaken ms f (n + 1) t
taken_more ms f n s t h put = record {
  yes = λ r e. ⊎_elim
      (λ a. inr (inl (n, (omega arith), register_along (free_at f n) r a)))
      (λ a. ⊎_elim (λ b. inl b) (λ y. ⊎_elim (λ j. inr (inl (j.0, (omega (arith, j.1)), j.2))) (λ b. inr (inr b)) y) (h.yes r a))
      (or_cases (is_register (free_at f n) r) (has_register s r) (sym (put r) ∙ e));
  no = λ r x. ⊎_elim
      (λ a. put r ∙ or_right (is_register (free_at f n) r) (has_register s r) (h.no r (inl a)))
      (λ y. ⊎_elim (λ j. earlier r j.0 j.1 j.2 (below_or_last j.0 n j.1))
      (λ b. put r ∙ or_right (is_register (free_at f n) r) (has_register s r) (h.no r (inr (inr b)))) y)
      x;
}
  where
    earlier : (r : Register) (j : ℕ) → j < n + 1 → free_at f j ≡ r → (j < n) ⊎ (j ≡ n) → has_register t r ≡ true
    earlier r j lt is (inl less) = put r ∙ or_right (is_register (free_at f n) r) (has_register s r) (h.no r (inr (inl (j, less, is))))
    earlier r j lt is (inr same) =
        let here : InRegister (free_at f n) ≡ InRegister r = ap InRegister (ap (free_at f) (sym same) ∙ is) in
        put r ∙ or_left (is_register (free_at f n) r) (has_register s r) (is_place-along (InRegister (free_at f n)) (InRegister r) here)

-- a free register that the set doesn't have isn't in use
pub taken_not : {A : Type 0} (ms : CallMoves) (f : CallFrame A) (n : ℕ) (s : PRegSet) → AreTaken ms f n s → false ≡ has_register s (free_at f n) →
    IsNotFree ms f n → ⊥
taken_not ms f n s h e x = let no : true ≡ false = sym (h.no (free_at f n) x) ∙ sym e in cc

-- the lowest slot that the first n moves name, from a start on and below an end
pub record IsLowest (ms : CallMoves) (n start end_ lowest : ℕ) : Type 0 where
  pub within : lowest ≤ end_
  pub named : lowest < end_ → (start ≤ lowest) × IsNamedBelow ms n (InSlot lowest)
  pub none : (k : ℕ) → start ≤ k → k < lowest → IsNamedBelow ms n (InSlot k) → ⊥

-- the lowest slot that one move more names, from the slots of the two ends of move n
pub lowest_more : (ms : CallMoves) (n start end_ a b c : ℕ) → IsLowest ms n start end_ a → IsLower (source ms n) start a b →
    IsLower (target ms n) start b c → IsLowest ms (n + 1) start end_ c
lowest_more ms n start end_ a b c h first second = record {
  within = omega (arith, h.within, first.least, second.least);
  named = λ lt. by lt (split_le c b second.least) (split_le b a first.least);
  none = λ k low lt x. ⊎_elim (λ e. first.other k low (omega (arith, second.least)) e)
      (λ y. ⊎_elim (λ e. second.other k low lt e) (λ z. h.none k low (omega (arith, first.least, second.least)) z) y)
      (named_split ms n (InSlot k) x);
}
  where
    by : c < end_ → (c < b) ⊎ (c ≡ b) → (b < a) ⊎ (b ≡ a) → (start ≤ c) × IsNamedBelow ms (n + 1) (InSlot c)
    by lt (inl less) more = let s = second.slot less in (s.0, named_here ms n (InSlot c) (inr s.1))
    by lt (inr same) (inl less) = let s = first.slot less in
        ((omega (arith, s.0)), named_here ms n (InSlot c) (inl (s.1 ∙ ap InSlot (sym same))))
    by lt (inr same) (inr old) = let s = h.named (omega arith) in
        ((omega (arith, s.0)), named_later ms n (InSlot c) (subst (λ k. IsNamedBelow ms n (InSlot k)) (sym old ∙ sym same) s.1))

-- the moves so far as parallel moves, with a move more
pub units_more : (ms : CallMoves) (k : ℕ) (m : Place × Place) (ps : List (Place × Place × Unit {0})) → k < length ms → m ≡ get_or ms k m →
    ps ≡ with_units (take k ms) → ps ++ (m.0, m.1, tt) ∷ [] ≡ with_units (take (k + 1) ms)
units_more ms k m ps less is same =
    let s : suc k ≡ k + 1 = omega arith in
    let more : with_units (take (suc k) ms) ≡ with_units (take k ms) ++ (m.0, m.1, tt) ∷ [] =
    ap with_units (take-suc ms k m less ∙ ap (λ (y : Place × Place). take k ms ++ y ∷ []) (sym is))
    ∙ map-append (λ (x : Place × Place). (x.0, x.1, tt)) (take k ms) (m ∷ []) in
    rw same (sym more ∙ ap (λ (n : ℕ). with_units (take n ms)) s)
