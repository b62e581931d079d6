-- What a block's start stores of a branch's definitions keeps the tables safe.
use Rattle.std.proofs.Common.{ℕ, suc, ◌≡◌, ◌≢◌, ◌<◌, ◌⊎◌, List, [], ◌∷◌, Bool, true, false, refl, sym, ap, ◌∙◌, subst, inl, inr, arith}
use Rattle.std.specs.Prelude.{All, Option, None, Some, slice_index_or}
use Rattle.std.proofs.lemmas.List.Elements.{All-append, All-push, All-cons, All-nil}
use Rattle.regalloc2_names.specs.Register.{Register, VirtualRegister, class_code}
use Rattle.regalloc2_names.specs.Place.{Place, NoPlace, InRegister, InSlot, is_on_stack, before}
use Rattle.regalloc2_names.specs.Operand.{OperandValue}
use Rattle.regalloc2_function.specs.FunctionValue.{FunctionValue, block_at, op_at}
use Rattle.regalloc2_function.specs.Machine.{MachineValue, IsStackPlace, scratch_of}
use Rattle.regalloc2_function.specs.OutputValue.{MoveValue}
use Rattle.regalloc2_carry.specs.Stores.{Store, moves_by, store_moves, IsOneOf, AreInOrder}
use Rattle.regalloc2_carry.specs.Stores.IsOneOf.{first, later}
use Rattle.regalloc2_analysis.specs.BranchDefs.BranchDefs.{IsEdgeInto, DefinesNumber, fixed_definition}
use Rattle.regalloc2_analysis.proofs.BranchDefsLemmas.EdgeNotes.{fixed_defines}
use Rattle.regalloc2_fastalloc_state.specs.StateParts.{VRegAllocsValue, SpillSlotsValue, IsSlotOrNone, alloc_of, vreg_of_preg, slot_name}
use Rattle.regalloc2_fastalloc_proofs.specs.InstSteps.{StateValue, MayHold}
use Rattle.regalloc2_fastalloc_proofs.specs.StoreSteps.{branch_operands, fixed_or_slot, IsStoredFor, its_own, given, IsConcerned, GetsSlots, no_slot}
use Rattle.regalloc2_fastalloc_proofs.specs.StoreSteps.{one_slot, StoresFor, pushed_moves, StoresBranchDefs, none_stored, all_stored}
use Rattle.regalloc2_fastalloc_proofs.specs.Safety.{IsOfMachine, IsEndOfMove, IsSafeEdit, HasMachine, IsSafe, MayBeLocatedAtOrNone}
use Rattle.regalloc2_fastalloc_proofs.proofs.Safety.StepsKeepSafe.{MayBeHeld, machine_kept, own_slot_is_end}
use Rattle.regalloc2_fastalloc_proofs.proofs.Safety.BlockStartKeepsSafe.{given_safe}
use Rattle.regalloc2_fastalloc_proofs.proofs.BlockBegin.StoresOfDefs.{with_slots}

-- what the operand j of the branch at the end of the block e defines is of v's class, and the register that it is fixed
-- to is one of the machine, of that class
pub record IsAlike (env : MachineValue) (f : FunctionValue) (e j : ℕ) (v : VirtualRegister) : Type 0 where
  pub class : (op_at (branch_operands f e) j).vreg.class ≡ v.class
  pub fixed : (r : Register) → fixed_definition (op_at (branch_operands f e) j) ≡ Some r → IsOfMachine env r × (r.class ≡ v.class)

-- more may be written
pub more_safe : (env : MachineValue) (Known : VirtualRegister → Type 0) (Writes More : ℕ → VirtualRegister → ℕ → Type 0) (May : ℕ → Type 0) (t : StateValue) →
    ((q : ℕ) (v : VirtualRegister) (n : ℕ) → Writes q v n → More q v n) → IsSafe env Known Writes May t → IsSafe env Known More May t
more_safe env Known Writes More May t more h = record {
  machine = h.machine;
  places = h.places;
  holders = h.holders;
  slots = h.slots;
  units = h.units;
  edits = λ k d lt. (let e = h.edits k d lt in record {
    moves = elim e.moves [
      | inl m ↦ inl (record { vreg = m.vreg; known = m.known; from = m.from; to = m.to; written = λ n at. more _ m.vreg n (m.written n at) })
      | inr m ↦ inr (record {
        class = m.class;
        from = m.from;
        to = m.to;
        written = λ n at. elim (m.written n at) [ inl w ↦ inl (w.0, w.1, w.2, more _ w.0 n w.3) | inr w ↦ inr w ];
      })
    ];
    not_both = e.not_both;
    point = e.point;
  });
}

module _ (env : MachineValue) (Known : VirtualRegister → Type 0) (Writes : ℕ → VirtualRegister → ℕ → Type 0) (May : ℕ → Type 0) where
  -- slots that are made for known vregs
  pub gets_slots_safe : (P : VirtualRegister → Type 0) → ((v : VirtualRegister) → P v → Known v) → (old : StateValue) (s : SpillSlotsValue) →
      GetsSlots P old.slots s → IsSafe env Known Writes May old → IsSafe env Known Writes May (with_slots old s)
  gets_slots_safe P known old s no_slot h = h
  gets_slots_safe P known old s (one_slot v p m n prev of gives temps) h =
      given_safe env Known Writes May (with_slots old m) (with_slots old n) v p gives refl refl (record {
        allocatable = refl;
        fixed_stack = refl;
        dedicated_scratch = refl;
        sizes = gives.sizes;
        vregs = gives.long;
        num_temp_slots = temps;
      }) (gets_slots_safe P known old m prev h)

  -- moves of which each is safe are safe edits, as they are pushed
  pushed_safe : (slots : SpillSlotsValue) (point : ℕ) (ms : List MoveValue) → All (λ m. IsSafeEdit env Known Writes slots May (point, m)) ms →
      All (IsSafeEdit env Known Writes slots May) (pushed_moves point ms)
  unfolding pushed_moves
  pushed_safe slots point [] h = λ k d lt. absurd (omega (arith, lt))
  pushed_safe slots point (m ∷ ms) h =
      All-push (IsSafeEdit env Known Writes slots May) (pushed_moves point ms) (point, m)
      (pushed_safe slots point ms (λ k d lt. h (suc k) d (omega (arith, lt)))) (h 0 m (omega arith))

-- ends of ordered stores: they go to the stack, through registers that aren't on it
pub order_each : (M : Place → Bool) (ss : List Store) → AreInOrder M ss → (x : Store) → IsOneOf x ss → (M x.to ≡ true)
    × ((q : Place) → x.by ≡ Some q → M q ≡ false)
unfolding AreInOrder
order_each M [] h x none = elim none [ ]
order_each M (s ∷ ss) h x (first is) = (
  ap (λ (y : Store). M y.to) (sym is) ∙ h.0,
  λ q by. (h.1 q (ap (λ (y : Store). y.by) is ∙ by)).0,
)
order_each M (s ∷ ss) h x (later m) = order_each M ss h.3 x m

-- what is stored is defined by the operand, and is for what the branch defines, or for a parameter
pub stored_defines : (f : FunctionValue) (e k : ℕ) (slots : SpillSlotsValue) (j : ℕ) (v : VirtualRegister) → IsStoredFor f e k slots j v →
    DefinesNumber (branch_operands f e) (op_at (branch_operands f e) j).vreg.number j
stored_defines f e k slots j v (its_own own is) = record {
  operand = own.operand;
  definition = fixed_defines (op_at (branch_operands f e) j) own.fixed;
  number = refl;
}
stored_defines f e k slots j v (given n lt is d has) = record { operand = d.operand; definition = d.definition; number = refl }

pub stored_concerned : (f : FunctionValue) (e k : ℕ) (slots : SpillSlotsValue) (j : ℕ) (v : VirtualRegister) → IsStoredFor f e k slots j v → IsConcerned f e k v
stored_concerned f e k slots j v (its_own own is) = inl (
  j,
  record {
    operand = own.operand;
    definition = fixed_defines (op_at (branch_operands f e) j) own.fixed;
    number = ap (λ (w : VirtualRegister). w.number) is;
  },
  is,
)
stored_concerned f e k slots j v (given n lt is d has) = inr (n, lt, is)

stack_memory : (env : MachineValue) (t : StateValue) → HasMachine env t → (p : Place) → IsStackPlace env p → is_on_stack t.fixed_stack p ≡ true
stack_memory env t h NoPlace s = absurd s
stack_memory env t h (InRegister r) s = h.memory r s
stack_memory env t h (InSlot n) s = refl

-- A store x at a point, into the slot of the known vreg v, of what the operand j of the branch of the block e defines;
-- old and new: the tables before it and after it. The operand's vreg is known, and of v's class; the store goes to the
-- stack, through a register.
pub record OneStore (env : MachineValue) (Known : VirtualRegister → Type 0) (Writes : ℕ → VirtualRegister → ℕ → Type 0) (May : ℕ → Type 0) : Type 0 where
  pub f : FunctionValue
  pub e : ℕ
  pub k : ℕ
  pub point : ℕ
  pub can : May point
  pub old : StateValue
  pub new : StateValue
  pub machine : HasMachine env old
  pub below : (n : ℕ) → IsSlotOrNone new.slots.count (slot_name new.slots n)
  pub x : Store
  pub j : ℕ
  pub v : VirtualRegister
  pub r : StoresFor f e k old new x j v
  pub known : Known v
  pub known_op : Known (op_at (branch_operands f e) j).vreg
  pub alike : IsAlike env f e j v
  pub written : (n : ℕ) → Writes point v n
  pub to_memory : is_on_stack old.fixed_stack x.to ≡ true
  pub by_register : (q : Place) → x.by ≡ Some q → is_on_stack old.fixed_stack q ≡ false

module _ (env : MachineValue) (Known : VirtualRegister → Type 0) (Writes : ℕ → VirtualRegister → ℕ → Type 0) (May : ℕ → Type 0) where
  -- what one store writes, and its ends
  module _ (one : OneStore env Known Writes May) where
    open one use {f, e, k, point, can, old, new, machine, below, x, j, v, r, known, known_op, alike, written, to_memory, by_register}

    abbrev o : OperandValue
    o = op_at (branch_operands f e) j

    from_end : (d : Option Register) → fixed_definition o ≡ d → x.from ≡ fixed_or_slot d (slot_name new.slots o.vreg.number) →
        IsEndOfMove env new.slots o.vreg x.from
    from_end (Some g) is at = subst (IsEndOfMove env new.slots o.vreg) (sym at) (inl ((alike.fixed g is).0, (alike.fixed g is).1 ∙ sym alike.class))
    from_end None is at = subst (IsEndOfMove env new.slots o.vreg) (sym at)
        (own_slot_is_end env new.slots o.vreg (slot_name new.slots o.vreg.number) refl (λ n. r.there (at ∙ n)) (below o.vreg.number))

    direct_end : is_on_stack old.fixed_stack x.from ≡ false → (d : Option Register) → fixed_definition o ≡ d →
        x.from ≡ fixed_or_slot d (slot_name new.slots o.vreg.number) → IsEndOfMove env new.slots v x.from
    direct_end flat (Some g) is at = subst (IsEndOfMove env new.slots v) (sym at) (inl (alike.fixed g is))
    direct_end flat None is at = absurd (in_memory (slot_name new.slots o.vreg.number) (below o.vreg.number) (λ n. r.there (at ∙ n))
        (subst (λ p. is_on_stack old.fixed_stack p ≡ false) at flat))
      where
        in_memory : (p : Place) → IsSlotOrNone new.slots.count p → p ≢ NoPlace → is_on_stack old.fixed_stack p ≡ false → ⊥
        in_memory NoPlace b there m = there refl
        in_memory (InRegister g) b there m = b
        in_memory (InSlot n) b there m = cc

    to_end : IsEndOfMove env new.slots v x.to
    to_end = own_slot_is_end env new.slots v x.to r.to (λ none. let y : is_on_stack old.fixed_stack x.to ≡ false = ap (is_on_stack old.fixed_stack) none in cc)
        (subst (IsSlotOrNone new.slots.count) r.to (below v.number))

    by_end : (g : Register) → (slice_index_or old.dedicated_scratch (class_code o.vreg.class) None ≡ Some g) ⊎ MayHold old o.vreg.class g →
        (u : VirtualRegister) →
        o.vreg.class ≡ u.class → IsEndOfMove env new.slots u (InRegister g)
    by_end g (inl own) u same = inr (subst (λ c. scratch_of env c ≡ Some g) same (machine.dedicated_scratch o.vreg.class g own))
    by_end g (inr may) u same = inl (inl (machine.allocatable g may.small may.allocatable), may.of_class ∙ same)

    -- the moves of a store
    pub store_safe : (by : Option Place) → x.by ≡ by → All (λ m. IsSafeEdit env Known Writes new.slots May (point, m)) (moves_by x.from by x.to)
    store_safe None is =
        let flat : is_on_stack old.fixed_stack x.from ≡ false = r.by_way.direct is in
        All-cons (λ m. IsSafeEdit env Known Writes new.slots May (point, m)) (record { from = x.from; to = x.to }) [] (record {
          moves = inl (record {
            vreg = v;
            known = known;
            from = direct_end flat (fixed_definition o) refl r.from;
            to = to_end;
            written = λ n at. written n;
          });
          not_both = λ both. let y : is_on_stack old.fixed_stack x.from ≡ true = stack_memory env old machine x.from both.0 in cc;
          point = can;
        }) (All-nil (λ m. IsSafeEdit env Known Writes new.slots May (point, m)))
    store_safe (Some q) is =
        let g = r.by_way.through q is in
        let flat : is_on_stack old.fixed_stack q ≡ false = by_register q is in
        All-cons (λ m. IsSafeEdit env Known Writes new.slots May (point, m)) (record { from = x.from; to = q }) (record { from = q; to = x.to } ∷ []) (record {
          moves = inl (record {
            vreg = o.vreg;
            known = known_op;
            from = from_end (fixed_definition o) refl r.from;
            to = subst (IsEndOfMove env new.slots o.vreg) (sym g.1) (by_end g.0 g.2 o.vreg refl);
            written = λ n at. (let y : InRegister g.0 ≡ InSlot n = sym g.1 ∙ at in cc);
          });
          not_both = λ both. let y : is_on_stack old.fixed_stack q ≡ true = stack_memory env old machine q both.1 in cc;
          point = can;
        })
        (All-cons (λ m. IsSafeEdit env Known Writes new.slots May (point, m)) (record { from = q; to = x.to }) [] (record {
          moves = inl (record {
            vreg = v;
            known = known;
            from = subst (IsEndOfMove env new.slots v) (sym g.1) (by_end g.0 g.2 v alike.class);
            to = to_end;
            written = λ n at. written n;
          });
          not_both = λ both. let y : is_on_stack old.fixed_stack q ≡ true = stack_memory env old machine q both.0 in cc;
          point = can;
        }) (All-nil (λ m. IsSafeEdit env Known Writes new.slots May (point, m))))

  all_stores : (slots : SpillSlotsValue) (point : ℕ) (ss : List Store) → ((x : Store) → IsOneOf x ss →
      All (λ m. IsSafeEdit env Known Writes slots May (point, m)) (moves_by x.from x.by x.to)) → All (λ m. IsSafeEdit env Known Writes slots May (point, m))
      (store_moves ss)
  unfolding store_moves
  all_stores slots point [] h = All-nil (λ m. IsSafeEdit env Known Writes slots May (point, m))
  all_stores slots point (s ∷ ss) h =
      All-append (λ m. IsSafeEdit env Known Writes slots May (point, m)) (moves_by s.from s.by s.to) (store_moves ss) (h s (first refl))
      (all_stores slots point ss (λ x is. h x (later is)))

  -- all that a block's start stores
  pub stores_branch_defs_kept : (f : FunctionValue) (b : ℕ) → May (before (block_at f b).range.first) →
      ((e k : ℕ) (v : VirtualRegister) → IsEdgeInto f b e k → IsConcerned f e k v → Known v) →
      ((e k j : ℕ) (v : VirtualRegister) (slots : SpillSlotsValue) → IsEdgeInto f b e k → IsStoredFor f e k slots j v → IsAlike env f e j v) →
      ((e k : ℕ) (v : VirtualRegister) (n : ℕ) → IsEdgeInto f b e k → IsConcerned f e k v → Writes (before (block_at f b).range.first) v n) →
      (old new : StateValue) → StoresBranchDefs f b old new → IsSafe env Known Writes May old → IsSafe env Known Writes May new
  stores_branch_defs_kept f b can concerned alike written old new (none_stored none same) h =
      subst (IsSafe env Known Writes May) (sym same) h
  stores_branch_defs_kept f b can concerned alike written old new (all_stored e k edge s) h =
      let point : ℕ = before (block_at f b).range.first in
      let mid : IsSafe env Known Writes May (with_slots old new.slots) = gets_slots_safe env Known Writes May (IsConcerned f e k)
      (λ v is. concerned e k v edge is) old new.slots s.slots h in
      let moves : All (λ m. IsSafeEdit env Known Writes new.slots May (point, m)) (store_moves s.stores) = all_stores new.slots point s.stores (λ x is.
      let one = s.each x is in
      let ends = order_each (is_on_stack old.fixed_stack) s.stores s.in_order x is in
      let stored : IsStoredFor f e k old.slots one.0 one.1 = one.2.stored in
      store_safe (record {
        f = f;
        e = e;
        k = k;
        point = point;
        can = can;
        old = old;
        new = new;
        machine = h.machine;
        below = mid.slots;
        x = x;
        j = one.0;
        v = one.1;
        r = one.2;
        known = concerned e k one.1 edge (stored_concerned f e k old.slots one.0 one.1 stored);
        known_op = concerned e k (op_at (branch_operands f e) one.0).vreg edge (inl (one.0, stored_defines f e k old.slots one.0 one.1 stored, refl));
        alike = alike e k one.0 one.1 old.slots edge stored;
        written = λ n. written e k one.1 n edge (stored_concerned f e k old.slots one.0 one.1 stored);
        to_memory = ends.0;
        by_register = ends.1;
      }) x.by refl) in
      record {
        machine = machine_kept env old new s.machine h.machine;
        places = λ w known. subst (MayBeLocatedAtOrNone env new.slots w) (ap (λ (y : VRegAllocsValue). alloc_of y w.number) (sym s.places))
            (mid.places w known);
        holders = subst (λ (y : VRegAllocsValue). (g : Register) (w : VirtualRegister) → g.number < 64 → vreg_of_preg y g ≡ Some w → MayBeHeld env Known g w)
            (sym s.places) h.holders;
        slots = mid.slots;
        units = mid.units;
        edits = subst (All (IsSafeEdit env Known Writes new.slots May)) (sym s.edits)
            (All-append (IsSafeEdit env Known Writes new.slots May) old.edits (pushed_moves point (store_moves s.stores)) mid.edits
            (pushed_safe env Known Writes May new.slots point (store_moves s.stores) moves));
      }
