-- The scheduled moves of a call without errors.
use Rattle.std.proofs.Common.{ℕ, zero, suc, ◌≡◌, ◌≢◌, ◌<◌, ◌≤◌, ◌+◌, Bool, true, false, [], ◌∷◌, length, get_or, Option, None, Some, refl, sym, ap, ◌∙◌}
use Rattle.std.proofs.Common.{subst, inl, inr, ◌⊎◌, ⊎_elim, arith}
use Rattle.std.specs.Prelude.{Contains}
use Rattle.std.proofs.lemmas.Bool.{cases_lt}
use Rattle.regalloc2_names.specs.declared.sets.PRegSet.{PRegSet}
use Rattle.regalloc2_names.specs.Place.{Place, NoPlace, InRegister, InSlot, is_on_stack}
use Rattle.regalloc2_names.specs.Register.{Register, has_register}
use Rattle.regalloc2_parts.specs.declared.moves.MoveFault.{MoveFault}
use Rattle.regalloc2_parts.specs.declared.moves.MoveFault.TheVariants.{NoSlot, Memory}
use Rattle.regalloc2_parts.specs.AtOnce.{Ends, ends_of, HasOneSourceEach, IsOfMoves}
use Rattle.regalloc2_parts.specs.Resolved.{IsResolution, IsUnnamed}
use Rattle.regalloc2_parts.specs.declared.scratch_pool.ScratchPool.{ScratchPool}
use Rattle.regalloc2_parts.specs.ScratchPool.{Moves, IsOfScratchPair, IsScratchTaken as IsHandedOut, IsUsableFor, IsOrderedWith, HasTooFewSlots}
use Rattle.regalloc2_names.proofs.EqualNames.{cases_place}
use Rattle.regalloc2_parts.specs.declared.callmoves.CallFrame.{CallFrame}
use Rattle.regalloc2_parts.specs.Callmoves.Frame.{free_at, IsRegisterAt, IsSlotAt}
use Rattle.regalloc2_parts.specs.Callmoves.CallMoves.{CallMoves, with_units, source, target, fault_of, HasNone, HasOtherSource, MovesName, IsProper}
use Rattle.regalloc2_parts.specs.Callmoves.CallMoves.{IsCallFault, IsLent, IsMove, IsPoolOf, IsScheduled}
use Rattle.regalloc2_parts.proofs.CallmovesLemmas.CallPlaces.{split_le}

abbrev pub end_at : CallMoves → ℕ → Ends
end_at ms k = record { from = source ms k; to = target ms k }

nth_end : (ms : CallMoves) (k : ℕ) (d : Ends) → k < length ms → get_or (ends_of (with_units ms)) k d ≡ end_at ms k
nth_end [] k d lt = absurd (omega arith)
nth_end (m ∷ ms) zero d lt = refl
nth_end (m ∷ ms) (suc k) d lt = nth_end ms k d (omega arith)

many_ends : (ms : CallMoves) → length (ends_of (with_units ms)) ≡ length ms
many_ends [] = refl
many_ends (m ∷ ms) = let h = many_ends ms in omega arith

has_end : (ms : CallMoves) (k : ℕ) → k < length ms → Contains (ends_of (with_units ms)) (end_at ms k)
has_end ms k lt = (k, (omega (arith, many_ends ms)), nth_end ms k (end_at ms k) lt)

-- each of the moves' ends is the end of one of the moves
end_of : (ms : CallMoves) (m : Ends) → Contains (ends_of (with_units ms)) m → (k : ℕ) × (k < length ms) × (end_at ms k ≡ m)
end_of ms m (k, lt, e) =
    let low : k < length ms = omega (arith, many_ends ms) in
    (k, low, sym (nth_end ms k m low) ∙ e)

-- each move with an empty value is one of the moves
nth_unit : (ms : CallMoves) (k : ℕ) (d : Place × Place × Unit {0}) → k < length ms → (source ms k ≡ (get_or (with_units ms) k d).0)
    × (target ms k ≡ (get_or (with_units ms) k d).1)
nth_unit [] k d lt = absurd (omega arith)
nth_unit (m ∷ ms) zero d lt = (refl, refl)
nth_unit (m ∷ ms) (suc k) d lt = nth_unit ms k d (omega arith)

many_units : (ms : CallMoves) → length (with_units ms) ≡ length ms
many_units [] = refl
many_units (m ∷ ms) = let h = many_units ms in omega arith

unit_of : (ms : CallMoves) (m : Place × Place × Unit {0}) → Contains (with_units ms) m → (k : ℕ) × (k < length ms) × (source ms k ≡ m.0) × (target ms k ≡ m.1)
unit_of ms m (k, lt, e) =
    let low : k < length ms = omega (arith, many_units ms) in
    let is = nth_unit ms k m low in
    (k, low, is.0 ∙ ap (λ (x : Place × Place × Unit {0}). x.0) e, is.1 ∙ ap (λ (x : Place × Place × Unit {0}). x.1) e)

-- the parts of an end that is one of a move
from_is : (a b : Ends) → a ≡ b → a.from ≡ b.from
from_is a b e = ap (λ (m : Ends). m.from) e

to_is : (a b : Ends) → a ≡ b → a.to ≡ b.to
to_is a b e = ap (λ (m : Ends). m.to) e

same_source : (ms : CallMoves) → HasNone (length ms) (HasOtherSource ms) → (j k : ℕ) → j < length ms → k < length ms → target ms j ≡ target ms k →
    source ms j ≡ source ms k
same_source ms h j k lj lk e = ⊎_elim (λ less. below j k lk less e) (λ more. by (split_le k j more)) (cases_lt j k)
  where
    below : (a b : ℕ) → b < length ms → a < b → target ms a ≡ target ms b → source ms a ≡ source ms b
    below a b lb less same = ⊎_elim (λ s. s) (λ other. absurd (h b lb (a, less, same, other))) (cases_place (source ms a) (source ms b))

    by : (k < j) ⊎ (k ≡ j) → source ms j ≡ source ms k
    by (inl less) = sym (below k j lj less (sym e))
    by (inr same) = ap (source ms) (sym same)

-- where no move has the destination of an earlier one and another source, each place has one source
pub one_source : (ms : CallMoves) → HasNone (length ms) (HasOtherSource ms) → HasOneSourceEach (ends_of (with_units ms))
one_source ms h a b ca cb e =
    let j = end_of ms a ca in
    let k = end_of ms b cb in
    sym (from_is (end_at ms j.0) a j.2)
    ∙ same_source ms h j.0 k.0 j.1 k.1 (to_is (end_at ms j.0) a j.2 ∙ e ∙ sym (to_is (end_at ms k.0) b k.2))
    ∙ from_is (end_at ms k.0) b k.2

in_register : (a b : Register) → InRegister a ≡ InRegister b → a ≡ b
in_register a b e = cc

in_slot : (a b : ℕ) → InSlot a ≡ InSlot b → a ≡ b
in_slot a b e = cc

module _ {A : Type 0} (f : CallFrame A) (l : ScratchPool) (first : IsRegisterAt f 0 l.registers.first) (second : IsRegisterAt f 1 l.registers.second)
    (first_slot : IsSlotAt f 0 l.slots.first) (second_slot : IsSlotAt f 1 l.slots.second) where
  register_at : (k : ℕ) (o : Option Place) (p : Place) → IsRegisterAt f k o → o ≡ Some p → (k < length f.free_regs.items) × (p ≡ InRegister (free_at f k))
  register_at k o p h e = subst (IsRegisterAt f k) e h

  slot_at : (k : ℕ) (o : Option Place) (p : Place) → IsSlotAt f k o → o ≡ Some p →
      (f.slots.start + k < f.slots.«end») × (p ≡ InSlot (f.slots.start + k))
  slot_at k o p h e = subst (IsSlotAt f k) e h

  slot_missing : (k : ℕ) (o : Option Place) → IsSlotAt f k o → o ≡ None → f.slots.«end» ≤ f.slots.start + k
  slot_missing k o h e = subst (IsSlotAt f k) e h

  of_registers : (p : Place) → IsOfScratchPair l.registers p → (k : ℕ) × (k < length f.free_regs.items) × (p ≡ InRegister (free_at f k))
  of_registers p (inl e) = let x = register_at 0 l.registers.first p first e in (0, x.0, x.1)
  of_registers p (inr e) = let x = register_at 1 l.registers.second p second e in (1, x.0, x.1)

  of_slots : (p : Place) → IsOfScratchPair l.slots p → (n : ℕ) × (f.slots.start ≤ n) × (n < f.slots.«end») × (p ≡ InSlot n)
  of_slots p (inl e) = let x = slot_at 0 l.slots.first p first_slot e in (f.slots.start + 0, (omega arith), x.0, x.1)
  of_slots p (inr e) = let x = slot_at 1 l.slots.second p second_slot e in (f.slots.start + 1, (omega arith), x.0, x.1)

  -- where the range is empty there is no second slot
  none_second : (o : Option Place) → IsSlotAt f 1 o → f.slots.«end» ≤ f.slots.start + 0 → o ≡ None
  none_second None h empty = refl
  none_second (Some p) h empty = absurd (omega (arith, h.0))

  -- the first two free registers and the first two slots of the range are scratch places that the frame lends
  pub lends_first : l.fixed_stack ≡ f.stack_pregs → l.borrowed ≡ f.borrowed → IsPoolOf f l
  lends_first stack borrowed = record {
    registers = of_registers;
    slots = of_slots;
    registers_apart = λ p q a b.
        let x = register_at 0 l.registers.first p first a in
        let y = register_at 1 l.registers.second q second b in
        (0, 1, (omega arith), y.0, x.1, y.1);
    slots_apart = λ p q a b e.
        let x = slot_at 0 l.slots.first p first_slot a in
        let y = slot_at 1 l.slots.second q second_slot b in
        let same : f.slots.start + 0 ≡ f.slots.start + 1 = in_slot (f.slots.start + 0) (f.slots.start + 1) (sym x.1 ∙ e ∙ y.1) in
        omega arith;
    slots_missing = λ missing. ⊎_elim
        (λ e. let low = slot_missing 0 l.slots.first first_slot e in omega arith)
        (λ e. slot_missing 1 l.slots.second second_slot e)
        missing;
    slots_in_order = λ none. none_second l.slots.second second_slot (slot_missing 0 l.slots.first first_slot none);
    fixed_stack = stack;
    borrowed = borrowed;
  }

module _ {A : Type 0} (ms : CallMoves) (f : CallFrame A) (l : ScratchPool) (proper : IsProper ms f) (lends : IsPoolOf f l) where
  lent_of : (p : Place) → (IsOfScratchPair l.registers p) ⊎ (IsOfScratchPair l.slots p) → IsLent f p
  lent_of p (inl a) = inl (lends.registers p a)
  lent_of p (inr a) = inr (lends.slots p a)

  -- no move names a scratch resource
  unnamed : (p : Place) → IsLent f p → MovesName ms p → ⊥
  unnamed p (inl (k, lt, e)) named = proper.free.registers k lt (inl (subst (MovesName ms) e named))
  unnamed p (inr (n, low, lt, e)) named = proper.free.slots n lt (low, subst (MovesName ms) e named)

  lent_real : (p : Place) → IsLent f p → NoPlace ≡ p → ⊥
  lent_real p (inl (k, lt, e)) n = let no : NoPlace ≡ InRegister (free_at f k) = n ∙ e in cc
  lent_real p (inr (k, low, lt, e)) n = let no : NoPlace ≡ InSlot k = n ∙ e in cc

  not_true : (b : Bool) → (b ≡ true → ⊥) → b ≡ false
  not_true true h = absurd (h refl)
  not_true false h = refl

  no_memory : (p : Place) → IsOfScratchPair l.registers p → is_on_stack l.fixed_stack p ≡ false
  no_memory p a =
      let x = lends.registers p a in
      ap (is_on_stack l.fixed_stack) x.2
      ∙ ap (λ (s : PRegSet). has_register s (free_at f x.0)) lends.fixed_stack
      ∙ not_true (has_register f.stack_pregs (free_at f x.0)) (λ e. proper.free.registers x.0 x.1 (inr (inr e)))

  module _ (scratch : Bool) (given : Moves) (resolved : IsResolution (with_units ms) scratch given) where
    -- a move that was made of the moves names no scratch resource
    spared : (p : Place) → IsLent f p → (m : Place × Place × Unit {0}) → IsOfMoves (with_units ms) m → (m.0 ≢ p) × (m.1 ≢ p)
    spared p a m (inl (aside, n, c, e)) =
        let k = unit_of ms n c in
        ((λ s. unnamed p a (k.0, k.1, inl (k.2 ∙ sym e ∙ s))), (λ s. lent_real p a (sym aside ∙ s)))
    spared p a m (inr (n, c, to, value, from)) =
        let k = unit_of ms n c in (
          (λ s. ⊎_elim (λ none. lent_real p a (sym none ∙ s)) (λ e. unnamed p a (k.0, k.1, inl (k.2 ∙ sym e ∙ s))) from),
          (λ s. unnamed p a (k.0, k.1, inr (k.3 ∙ sym to ∙ s))),
        )

    all_spared : (p : Place) → IsLent f p → IsUnnamed p given
    all_spared p a k d lt = spared p a (get_or given k d) (resolved.of_moves k d lt)

    -- the scratch resources serve the ordered moves: none of them names one
    pub usable : IsUsableFor l given
    usable = record {
      free = λ p a. let x = lent_of p (inl a) in ((λ e. lent_real p x (sym e)), all_spared p x, no_memory p a);
      unused = λ p a. let x = lends.slots p a in (all_spared p (inr x), (x.0, x.3));
      registers_differ = λ p q a b e.
          let x = lends.registers_apart p q a b in
          proper.free.registers x.1 x.3 (inr (inl (x.0, x.2, in_register (free_at f x.0) (free_at f x.1) (sym x.4 ∙ e ∙ x.5))));
      slots_differ = lends.slots_apart;
      slots_in_order = lends.slots_in_order;
      borrowed = ap (λ (s : PRegSet). has_register s l.borrowed) lends.fixed_stack
          ∙ ap (has_register f.stack_pregs) lends.borrowed
          ∙ not_true (has_register f.stack_pregs f.borrowed) (λ e. proper.free.borrowed (inr e));
    }

    -- a place that is handed out is one of the two
    of_pair : (p : Place) (taken : ℕ) → IsHandedOut l.slots taken p → IsOfScratchPair l.slots p
    of_pair p taken (inl a) = inl a.0
    of_pair p taken (inr a) = inr a.0

    -- moves that do what the ordered ones do, except in scratch places, do what the call's parallel moves do
    pub scheduled : (taken : ℕ) (made : Moves) → IsOrderedWith l taken given made → IsScheduled ms f made
    scheduled taken made with_ = record {
      assigned = λ k lt.
          let named : MovesName ms (target ms k) = (k, lt, inr refl) in
          with_.same (target ms k) (λ e. proper.named k lt (inr e)) (λ a. unnamed (target ms k) (lent_of (target ms k) (inl a)) named)
          (λ a. unnamed (target ms k) (lent_of (target ms k) (inr (of_pair (target ms k) taken a))) named)
          ∙ resolved.at_once.assigned (end_at ms k) (has_end ms k lt);
      kept = λ q real apart still.
          with_.same q real (λ a. apart (lent_of q (inl a))) (λ a. apart (lent_of q (inr (of_pair q taken a))))
          ∙ resolved.at_once.kept q real (λ m c e. let k = end_of ms m c in still k.0 k.1 (to_is (end_at ms k.0) m k.2 ∙ e));
      each = λ k d lt.
          let x = with_.each k d lt in
          subst (λ (s : PRegSet). IsMove s (get_or made k d).0 (get_or made k d).1) lends.fixed_stack
          (record { apart = λ a b. x.apart (sym a) (sym b); between = x.between });
    }

  -- an error of the resolver is one of the call
  pub fails : (fault : MoveFault) → (fault ≡ NoSlot → HasTooFewSlots l.slots) → IsCallFault ms f (fault_of fault)
  fails NoSlot h = (proper, lends.slots_missing (h refl))
  fails Memory h = proper
