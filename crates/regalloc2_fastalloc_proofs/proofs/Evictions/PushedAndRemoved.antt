-- Moves that are pushed, and the registers that are taken.
-- The fold in `Changes` doesn't apply: the proof splits two to four relations, fewer than the kinds of change.
use Rattle.std.proofs.Common.{ℕ, ◌≡◌, Bool, true, false, List, [], ◌∷◌, ◌++◌, refl, sym, ap, ◌∙◌, subst}
use Rattle.std.specs.Prelude.{Option, None, Some, ◌&&◌, not, ◌<◌, if◌then◌else◌}
use Rattle.regalloc2_names.specs.Register.{Register, VirtualRegister, is_register, has_register}
use Rattle.regalloc2_names.specs.declared.RegClass.{RegClass}
use Rattle.regalloc2_names.specs.declared.sets.PRegSet.{PRegSet}
use Rattle.regalloc2_names.specs.Place.{Place, InRegister, is_place}
use Rattle.regalloc2_function.specs.OutputValue.{MoveValue}
use Rattle.regalloc2_semantics.proofs.Cells.{is_place-same, is_place-other}
use Rattle.regalloc2_fastalloc_state.specs.StateParts.{VRegAllocsValue, alloc_of, vreg_of_preg, SetsAlloc, IsSlotOrNone}
use Rattle.regalloc2_fastalloc_state.specs.declared.inst_regs.InstRegs.{InstRegs}
use Rattle.regalloc2_fastalloc_proofs.specs.InstSteps.{StateValue, SameMachine, a_move, EvictsVReg, none_held, moved, AllocsScratchReg, dedicated_scratch, had}
use Rattle.regalloc2_fastalloc_proofs.specs.InstSteps.{found, AddsMove, direct, through, EvictsPReg, empty, cleared}

-- a vreg whose new location is no register leaves empty registers empty
sets_alloc_stays_empty : (old new : VRegAllocsValue) (v : VirtualRegister) (s : Place) (r : Register) → r.number < 64 → (s ≡ InRegister r → ⊥) →
    SetsAlloc old new v s →
    vreg_of_preg old r ≡ None → vreg_of_preg new r ≡ None
sets_alloc_stays_empty old new v s r lt slot sets_alloc none =
    sets_alloc.holders r lt ∙ rw (is_place-other s (InRegister r) slot) (either (is_place (alloc_of old v.number) (InRegister r)) (vreg_of_preg old r) none)
  where
    either : (b : Bool) (o : Option VirtualRegister) → o ≡ None → (if b then None else o) ≡ None
    either true o e = refl
    either false o e = e

-- the register of a vreg that moves to a slot is empty afterwards
pub sets_alloc_empties : (old new : VRegAllocsValue) (v : VirtualRegister) (s : Place) (r : Register) → r.number < 64 → (s ≡ InRegister r → ⊥) →
    alloc_of old v.number ≡ InRegister r → SetsAlloc old new v s → vreg_of_preg new r ≡ None
sets_alloc_empties old new v s r lt slot there sets_alloc =
    sets_alloc.holders r lt ∙ rw (is_place-other s (InRegister r) slot, ap (λ (p : Place). is_place p (InRegister r)) there ∙ is_place-same (InRegister r)) refl

-- a register is removed from the sets of both positions
pub left_of_both : (set mid new : PRegSet) (by : Register) (b : Bool) → b ≡ true →
    ((q : Register) → has_register mid q ≡ (not (b && is_register by q) && has_register set q)) → new ≡ mid
    → (q : Register) → has_register new q ≡ (not (is_register by q) && has_register set q)
left_of_both set mid new by b e h same = λ q. ap (λ (s : PRegSet). has_register s q) same ∙ h q
    ∙ ap (λ (x : Bool). not (x && is_register by q) && has_register set q) e

-- two vregs in one entry of the table of registers have one number
pub vreg_of_preg_unique : (v w : VirtualRegister) (o : Option VirtualRegister) → o ≡ Some v → o ≡ Some w → v.number ≡ w.number
vreg_of_preg_unique v w o e f = let s : Some v ≡ Some w = sym e ∙ f in let same : v ≡ w = cc in ap (λ (x : VirtualRegister). x.number) same

-- an eviction leaves empty registers empty
pub evicts_vreg_empty : (point : ℕ) (by : Register) (old new : StateValue) → EvictsVReg point by old new → (r : Register) → r.number < 64 →
    vreg_of_preg old.places r ≡ None → vreg_of_preg new.places r ≡ None
evicts_vreg_empty point by old new (none_held h e) r lt none = ap (λ (t : StateValue). vreg_of_preg t.places r) e ∙ none
evicts_vreg_empty point by old new (moved v s small h gives sets_alloc edits machine order) r lt none =
    sets_alloc_stays_empty old.places new.places v s r lt (λ e. subst (IsSlotOrNone new.slots.count) e gives.below) sets_alloc none

allocs_scratch_reg_empty : (point : ℕ) (class : RegClass) (t u : InstRegs) (by : Register) (old new : StateValue) → AllocsScratchReg point class t u by old new
    → (r : Register) → r.number < 64 → vreg_of_preg old.places r ≡ None → vreg_of_preg new.places r ≡ None
allocs_scratch_reg_empty point class t u by old new (dedicated_scratch d e f) r lt none = ap (λ (m : StateValue). vreg_of_preg m.places r) f ∙ none
allocs_scratch_reg_empty point class t u by old new (had d h e f) r lt none = ap (λ (m : StateValue). vreg_of_preg m.places r) f ∙ none
allocs_scratch_reg_empty point class t u by old new (found d n may e l he hl s evicts) r lt none = evicts_vreg_empty point by old new evicts r lt none

-- adding a move brings no vreg to a register: one without a vreg stays without
pub adds_move_empty : (point : ℕ) (class : RegClass) (from to : Place) (t u : InstRegs) (old new : StateValue) → AddsMove point class from to t u old new
    → (r : Register) → r.number < 64 → vreg_of_preg old.places r ≡ None → vreg_of_preg new.places r ≡ None
adds_move_empty point class from to t u old new (direct b e f) r lt none = ap (λ (m : StateValue). vreg_of_preg m.places r) f ∙ none
adds_move_empty point class from to t u old new (through by m b s e) r lt none = ap (λ (m : StateValue). vreg_of_preg m.places r) e
    ∙ allocs_scratch_reg_empty point class t u by old m s r lt none

-- emptying a register leaves empty registers empty
pub evicts_preg_empty : (point : ℕ) (by : Register) (t u : InstRegs) (old new : StateValue) → EvictsPReg point by t u old new → (r : Register) → r.number < 64 →
    vreg_of_preg old.places r ≡ None → vreg_of_preg new.places r ≡ None
evicts_preg_empty point by t u old new (empty h f e) r lt none = ap (λ (m : StateValue). vreg_of_preg m.places r) e ∙ none
evicts_preg_empty point by t u old new (cleared v s m small h gives sets_alloc edits machine order crosses) r lt none =
    adds_move_empty point v.class s (InRegister by) t u m new crosses r lt
    (sets_alloc_stays_empty old.places m.places v s r lt (λ e. subst (IsSlotOrNone m.slots.count) e gives.below) sets_alloc none)

-- an option that has no item is none
pub no_some : {X : Type 0} (o : Option X) → ((x : X) → o ≡ Some x → ⊥) → o ≡ None
no_some None h = refl
no_some (Some x) h = absurd (h x refl)

pub append_two : {X : Type 0} (xs : List X) (a b : X) → (xs ++ a ∷ []) ++ b ∷ [] ≡ xs ++ a ∷ b ∷ []
append_two [] a b = refl
append_two (x ∷ xs) a b = ap (λ l. x ∷ l) (append_two xs a b)

-- a move in two steps
pub two_pushed : (point : ℕ) (got by from to : Place) (es one two : List (ℕ × MoveValue)) → got ≡ by → one ≡ es ++ a_move point got to ∷ [] → two ≡ one
    ++ a_move point from got ∷ []
    → two ≡ es ++ a_move point by to ∷ a_move point from by ∷ []
two_pushed point got by from to es one two e f g =
    g ∙ ap (λ l. l ++ a_move point from got ∷ []) f ∙ append_two es (a_move point got to) (a_move point from got)
    ∙ ap (λ p. es ++ a_move point p to ∷ a_move point from p ∷ []) e

-- two steps that each keep the machine, the sizes of slots and the number of vregs keep them together
pub same_machine_trans : (a b c : StateValue) → SameMachine a b → SameMachine b c → SameMachine a c
same_machine_trans a b c f g = record {
  allocatable = g.allocatable ∙ f.allocatable;
  fixed_stack = g.fixed_stack ∙ f.fixed_stack;
  dedicated_scratch = g.dedicated_scratch
      ∙ f.dedicated_scratch;
  sizes = g.sizes ∙ f.sizes;
  vregs = g.vregs ∙ f.vregs;
  num_temp_slots = g.num_temp_slots ∙ f.num_temp_slots;
}
