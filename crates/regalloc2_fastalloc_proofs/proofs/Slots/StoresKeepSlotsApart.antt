-- What a block's start stores of a branch's definitions keeps slots disjoint and moves within a class.
use Rattle.std.proofs.Common.{ℕ, suc, Bool, ◌≡◌, ◌<◌, ◌⊎◌, List, [], ◌∷◌, refl, sym, ap, ◌∙◌, subst, inl, inr, arith}
use Rattle.std.specs.Prelude.{All, Option, None, Some, slice_index_or}
use Rattle.std.proofs.lemmas.List.Elements.{All-append, All-push, All-cons, All-nil}
use Rattle.regalloc2_names.specs.declared.RegClass.{RegClass}
use Rattle.regalloc2_names.specs.Register.{Register, VirtualRegister, class_code}
use Rattle.regalloc2_names.specs.Operand.{OperandValue}
use Rattle.regalloc2_names.specs.Place.{Place, before}
use Rattle.regalloc2_function.specs.FunctionValue.{FunctionValue, block_at, op_at}
use Rattle.regalloc2_function.specs.OutputValue.{MoveValue}
use Rattle.regalloc2_fastalloc_proofs.specs.SlotLayout.{OwnedSlot}
use Rattle.regalloc2_carry.specs.Stores.{Store, moves_by, store_moves, IsOneOf}
use Rattle.regalloc2_carry.specs.Stores.IsOneOf.{first, later}
use Rattle.regalloc2_analysis.specs.BranchDefs.BranchDefs.{IsEdgeInto, fixed_definition}
use Rattle.regalloc2_fastalloc_state.specs.StateParts.{VRegAllocsValue, SpillSlotsValue, IsSlotOrNone, alloc_of, vreg_of_preg, slot_name}
use Rattle.regalloc2_fastalloc_proofs.specs.InstSteps.{StateValue, MayHold}
use Rattle.regalloc2_fastalloc_proofs.specs.StoreSteps.{branch_operands, fixed_or_slot, IsStoredFor, IsConcerned, GetsSlots, no_slot, one_slot, StoresFor}
use Rattle.regalloc2_fastalloc_proofs.specs.StoreSteps.{pushed_moves, StoresBranchDefs, none_stored, all_stored}
use Rattle.regalloc2_fastalloc_proofs.proofs.BlockBegin.StoresOfDefs.{with_slots}
use Rattle.regalloc2_fastalloc_proofs.proofs.Safety.StoresKeepSafe.{stored_defines, stored_concerned}
use Rattle.regalloc2_fastalloc_proofs.proofs.Safety.StoredDefs.{IsStoredOfClass}
use Rattle.regalloc2_fastalloc_proofs.proofs.Slots.StepsKeepSlotsApart.{IsOwnPlace, IsEndOrNone, KeepsToClass, IsClassed, slot_own, own_end, only_slot}
use Rattle.regalloc2_fastalloc_proofs.proofs.Slots.StepsKeepSlotsApart.{dedicated_kept}

-- moves that keep to a class are pushed
pushed_keeps : (made : List OwnedSlot) (point : ℕ) (ms : List MoveValue) → All (λ m. KeepsToClass made (point, m)) ms →
    All (KeepsToClass made) (pushed_moves point ms)
unfolding pushed_moves
pushed_keeps made point [] h = λ k d lt. absurd (omega (arith, lt))
pushed_keeps made point (m ∷ ms) h = All-push (KeepsToClass made) (pushed_moves point ms) (point, m)
    (pushed_keeps made point ms (λ k d lt. h (suc k) d (omega (arith, lt)))) (h 0 m (omega arith))

all_keep : (made : List OwnedSlot) (point : ℕ) (ss : List Store) → ((x : Store) → IsOneOf x ss →
    All (λ m. KeepsToClass made (point, m)) (moves_by x.from x.by x.to)) → All (λ m. KeepsToClass made (point, m)) (store_moves ss)
unfolding store_moves
all_keep made point [] h = All-nil (λ m. KeepsToClass made (point, m))
all_keep made point (s ∷ ss) h =
    All-append (λ m. KeepsToClass made (point, m)) (moves_by s.from s.by s.to) (store_moves ss) (h s (first refl))
    (all_keep made point ss (λ x is. h x (later is)))

module _ (Known : VirtualRegister → Type 0) (same : (v w : VirtualRegister) → Known v → Known w → v.number ≡ w.number → v ≡ w) (named : Bool)
    (Met : ℕ → RegClass → Type 0) where
  -- slots that are made for known vregs
  gets_slots_classed : (P : VirtualRegister → Type 0) → ((v : VirtualRegister) → P v → Known v) → (old : StateValue) (s : SpillSlotsValue) →
      GetsSlots P old.slots s → IsClassed Known named Met old → IsClassed Known named Met (with_slots old s)
  gets_slots_classed P known old s no_slot h = h
  gets_slots_classed P known old s (one_slot v p m n prev of gives temps) h =
      only_slot Known same named Met (with_slots old m) (with_slots old n) v p (known v of) gives refl (record {
        allocatable = refl;
        fixed_stack = refl;
        dedicated_scratch = refl;
        sizes = gives.sizes;
        vregs = gives.long;
        num_temp_slots = temps;
      }) refl (gets_slots_classed P known old m prev h)

  -- one store keeps slots apart
  module _ (f : FunctionValue) (e k point : ℕ) (old new : StateValue) (h : IsClassed Known named Met (with_slots old new.slots)) (x : Store) (j : ℕ)
      (v : VirtualRegister) (r : StoresFor f e k old new x j v) (known : Known v) (known_op : Known (op_at (branch_operands f e) j).vreg)
      (of_class : IsStoredOfClass f e j v) where
    abbrev o : OperandValue
    o = op_at (branch_operands f e) j

    slot_end : (w : VirtualRegister) (p : Place) → slot_name new.slots w.number ≡ p → Known w → IsEndOrNone h.made point w.class p
    slot_end w p is known = own_end Known same named Met new.slots h.made h.laid point w p known
        (slot_own new.slots w p new.slots.count is (subst (IsSlotOrNone new.slots.count) is (h.slots w.number)))

    from_end : (d : Option Register) → fixed_definition o ≡ d → x.from ≡ fixed_or_slot d (slot_name new.slots o.vreg.number) →
        IsEndOrNone h.made point v.class x.from
    from_end (Some g) is at = subst (IsEndOrNone h.made point v.class) (sym at) (of_class.fixed g is)
    from_end None is at = subst (IsEndOrNone h.made point v.class) (sym at)
        (subst (λ c. IsEndOrNone h.made point c (slot_name new.slots o.vreg.number)) of_class.class
        (slot_end o.vreg (slot_name new.slots o.vreg.number) refl known_op))

    by_end : (g : Register) → (slice_index_or old.dedicated_scratch (class_code o.vreg.class) None ≡ Some g) ⊎ MayHold old o.vreg.class g → g.class ≡ v.class
    by_end g (inl own) = h.dedicated_scratch o.vreg.class g own ∙ of_class.class
    by_end g (inr may) = may.of_class ∙ of_class.class

    store_keeps : (by : Option Place) → x.by ≡ by → All (λ m. KeepsToClass h.made (point, m)) (moves_by x.from by x.to)
    store_keeps None is =
        All-cons (λ m. KeepsToClass h.made (point, m)) (record { from = x.from; to = x.to }) []
        (v.class, from_end (fixed_definition o) refl r.from, slot_end v x.to r.to known)
        (All-nil (λ m. KeepsToClass h.made (point, m)))
    store_keeps (Some q) is =
        let g = r.by_way.through q is in
        let way : IsEndOrNone h.made point v.class q = subst (IsEndOrNone h.made point v.class) (sym g.1) (by_end g.0 g.2) in
        All-cons (λ m. KeepsToClass h.made (point, m)) (record { from = x.from; to = q }) (record { from = q; to = x.to } ∷ [])
        (v.class, from_end (fixed_definition o) refl r.from, way)
        (All-cons (λ m. KeepsToClass h.made (point, m)) (record { from = q; to = x.to }) [] (v.class, way, slot_end v x.to r.to known)
        (All-nil (λ m. KeepsToClass h.made (point, m))))

  -- all that a block's start stores
  pub stores_branch_defs_classed : (f : FunctionValue) (b : ℕ) → ((e k : ℕ) (v : VirtualRegister) → IsEdgeInto f b e k → IsConcerned f e k v → Known v) →
      ((e k j : ℕ) (v : VirtualRegister) (slots : SpillSlotsValue) → IsEdgeInto f b e k → IsStoredFor f e k slots j v → IsStoredOfClass f e j v) →
      (old new : StateValue) → StoresBranchDefs f b old new → IsClassed Known named Met old → IsClassed Known named Met new
  stores_branch_defs_classed f b concerned of_class old new (none_stored none is) h = subst (IsClassed Known named Met) (sym is) h
  stores_branch_defs_classed f b concerned of_class old new (all_stored e k edge s) h =
      let point : ℕ = before (block_at f b).range.first in
      let mid : IsClassed Known named Met (with_slots old new.slots) = gets_slots_classed (IsConcerned f e k) (λ v is. concerned e k v edge is) old new.slots
      s.slots h in
      let moves : All (λ m. KeepsToClass mid.made (point, m)) (store_moves s.stores) = all_keep mid.made point s.stores (λ x is.
      let one = s.each x is in
      let stored : IsStoredFor f e k old.slots one.0 one.1 = one.2.stored in
      store_keeps f e k point old new mid x one.0 one.1 one.2
      (concerned e k one.1 edge (stored_concerned f e k old.slots one.0 one.1 stored))
      (concerned e k (op_at (branch_operands f e) one.0).vreg edge (inl (one.0, stored_defines f e k old.slots one.0 one.1 stored, refl)))
      (of_class e k one.0 one.1 old.slots edge stored) x.by refl) in record {
        holders = subst (λ (y : VRegAllocsValue). (g : Register) (w : VirtualRegister) → g.number < 64 → vreg_of_preg y g ≡ Some w → Known w
            × (g.class ≡ w.class)) (sym s.places) h.holders;
        places = λ w known. subst (IsOwnPlace new.slots w) (ap (λ (y : VRegAllocsValue). alloc_of y w.number) (sym s.places)) (mid.places w known);
        slots = mid.slots;
        units = mid.units;
        dedicated_scratch = dedicated_kept old new s.machine.dedicated_scratch h.dedicated_scratch;
        by_last = mid.by_last;
        made = mid.made;
        laid = mid.laid;
        met = mid.met;
        edits = subst (All (KeepsToClass mid.made)) (sym s.edits)
            (All-append (KeepsToClass mid.made) old.edits (pushed_moves point (store_moves s.stores)) mid.edits
            (pushed_keeps mid.made point (store_moves s.stores) moves));
      }
