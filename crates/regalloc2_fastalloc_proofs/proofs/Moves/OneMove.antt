-- One slot-to-slot move, made through a scratch register.
use Rattle.std.proofs.Common.{List, ℕ, zero, suc, ◌≡◌, ◌≢◌, ◌++◌, [], ◌∷◌, false, refl, sym, ap, ◌∙◌, subst, inl, inr, ⊎_elim, arith}
use Rattle.std.specs.Prelude.{Contains}
use Rattle.std.proofs.lemmas.List.Elements.{All-cons, All-nil}
use Rattle.regalloc2_names.specs.declared.RegClass.{RegClass}
use Rattle.regalloc2_names.specs.Register.{has_register, Register}
use Rattle.regalloc2_names.specs.Place.{Place, NoPlace, InRegister, InSlot}
use Rattle.regalloc2_function.specs.OutputValue.{MoveValue}
use Rattle.regalloc2_parts.specs.AtOnce.{ends_of, own_names, in_turn}
use Rattle.regalloc2_semantics.proofs.Cells.{is_place-same, is_place-other}
use Rattle.regalloc2_fastalloc_state.specs.declared.inst_regs.InstRegs.{InstRegs}
use Rattle.regalloc2_fastalloc_state.specs.ScratchPool.{Moves}
use Rattle.regalloc2_fastalloc_proofs.specs.InstSteps.{StateValue, a_move}
use Rattle.regalloc2_fastalloc_proofs.specs.BranchSteps.{MayBeScratch, RegsAvoidStack, AreBetweenSlots, IsSlotBelow, IsOrdered, OrdersMoves, Pushes}
use Rattle.regalloc2_fastalloc_proofs.proofs.Moves.ParallelMovesOrdered.{none_taken}

-- a move from one place to another
abbrev from_to : Place → Place → Place × Place × Unit {0}
from_to p q = (p, q, tt)

-- the move from p to q, made through a third place
abbrev move_by_way_of : Place → Place → Place → Moves
move_by_way_of p q by = from_to p by ∷ from_to by q ∷ []

-- the move brings to q what was at p
target_after_way : (p q by : Place) → in_turn (ends_of (move_by_way_of p q by)) own_names q ≡ p
unfolding in_turn
target_after_way p q by = rw (is_place-same q, is_place-same by) refl

-- the move leaves each place alone but q and the register that it goes through
passed_other : (p q by x : Place) → q ≢ x → by ≢ x → in_turn (ends_of (move_by_way_of p q by)) own_names x ≡ x
unfolding in_turn
passed_other p q by x other aside = rw (is_place-other q x other, is_place-other by x aside) refl

-- a list of one holds nothing else
only_one : {X : Type 0} (x y : X) → Contains (x ∷ []) y → x ≡ y
only_one x y (zero, lt, e) = e
only_one x y (suc k, lt, e) = absurd (omega (arith, lt))

module _ (inst_regs : InstRegs) (class : RegClass) (t : StateValue) (from to : Place) (by : Register) (above : IsSlotBelow t.slots.count from)
    (below : IsSlotBelow t.slots.count to) (apart : RegsAvoidStack t) (scratch : MayBeScratch inst_regs t class by) where
  -- the scratch register isn't on the stack
  plain : has_register t.fixed_stack by ≡ false
  plain = ⊎_elim (λ own. apart.dedicated_scratch class by own) (λ free. apart.allocatable by free.0.allocatable) scratch

  -- made through the scratch register, it does what the given parallel moves do
  orders_one : OrdersMoves inst_regs class (from_to from to ∷ []) (move_by_way_of from to (InRegister by)) t t
  orders_one = record {
    places = refl;
    edits = refl;
    allocatable = refl;
    fixed_stack = refl;
    dedicated_scratch = refl;
    lrus = refl;
    lends = (0, omega arith, none_taken t.slots class);
    grows = omega arith;
    assigned = λ m c.
        let e = only_one (from_to from to) m c in
        ap (λ (n : Place × Place × Unit {0}). in_turn (ends_of (move_by_way_of from to (InRegister by))) own_names n.1) (sym e)
        ∙ target_after_way from to (InRegister by) ∙ ap (λ (n : Place × Place × Unit {0}). n.0) e;
    kept = λ q real other free. passed_other from to (InRegister by) q (free (from_to from to) (0, omega arith, refl)) (λ e. other (inl (by, sym e, scratch)));
    each = All-cons (IsOrdered inst_regs class (from_to from to ∷ []) t t) (from_to from (InRegister by)) (from_to (InRegister by) to ∷ [])
        (record {
          between = ((λ e. let no : InSlot above.0 ≡ NoPlace = sym above.1 ∙ e in cc), (λ e. cc));
          apart = λ a b. cc plain;
          source = inr (from_to from to, (0, omega arith, refl), refl);
          target = inl (inl (by, refl, inl scratch));
        })
        (All-cons (IsOrdered inst_regs class (from_to from to ∷ []) t t) (from_to (InRegister by) to) []
        (record {
          between = ((λ e. cc), (λ e. let no : InSlot below.0 ≡ NoPlace = sym below.1 ∙ e in cc));
          apart = λ a b. cc plain;
          source = inl (inl (by, refl, inl scratch));
          target = inr (from_to from to, (0, omega arith, refl), refl);
        })
        (All-nil (IsOrdered inst_regs class (from_to from to ∷ []) t t)));
    idle = λ e. absurd cc;
  }

-- the two moves that are pushed for the only given one, the later one first, do what it does
pub pushes_one : (inst_regs : InstRegs) (class : RegClass) (t new : StateValue) (given : Moves) (from to : Place) (by : Register) (point : ℕ) →
    given ≡ (from, to, tt) ∷ [] → AreBetweenSlots t.slots.count given → RegsAvoidStack t → MayBeScratch inst_regs t class by
    → new ≡ record t { edits = new.edits } → new.edits ≡ t.edits ++ a_move point (InRegister by) to ∷ a_move point from (InRegister by) ∷ []
    → Pushes point inst_regs class given t new
pushes_one inst_regs class t new given from to by point one between apart scratch rest edits =
    let ends : IsSlotBelow t.slots.count from × IsSlotBelow t.slots.count to =
    subst (λ (ms : Moves). AreBetweenSlots t.slots.count ms) one between 0 (from_to from to) (omega arith) in
    subst (λ (ms : Moves). Pushes point inst_regs class ms t new) (sym one) (record {
      made = move_by_way_of from to (InRegister by);
      middle = t;
      orders = orders_one inst_regs class t from to by ends.0 ends.1 apart scratch;
      pushes = rest ∙ ap (λ (es : List (ℕ × MoveValue)). record t { edits = es }) edits;
    })
