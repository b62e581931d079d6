-- The state with which the walk begins.
use Rattle.std.proofs.Common.{ℕ, ◌≡◌, ◌<◌, true, List, [], sym, ap, ◌∙◌, subst, arith}
use Rattle.std.specs.Prelude.{Bool, Option, None, slice_index_or}
use Rattle.regalloc2_names.specs.declared.RegClass.{RegClass}
use Rattle.regalloc2_names.specs.Register.{Register, VirtualRegister, class_code, has_register}
use Rattle.regalloc2_names.specs.RegisterBits.{bits_of_register}
use Rattle.regalloc2_names.specs.Place.{NoPlace}
use Rattle.regalloc2_function.specs.Machine.{MachineValue, is_allocatable, IsFixedStackSlot}
use Rattle.regalloc2_fastalloc_state.specs.StateParts.{SpillSlotsValue, VRegAllocsValue, no_allocs, no_slots, alloc_of, vreg_of_preg, slot_name, units_of}
use Rattle.regalloc2_fastalloc_state.specs.StateParts.{IsSlotOrNone}
use Rattle.regalloc2_fastalloc_proofs.specs.InstSteps.{StateValue}
use Rattle.regalloc2_fastalloc_proofs.specs.Safety.{MayBeLocatedAtOrNone, HasMachine, IsSafe}
use Rattle.regalloc2_carry.proofs.Plain.{always, no_some}
use Rattle.regalloc2_fastalloc_proofs.proofs.BlockEnd.NoMoveForOperand.{IsEmpty}

-- no vreg has a location
pub begun_empty : (t : StateValue) (n : ℕ) {watched : List Bool} → t.places ≡ no_allocs n watched → IsEmpty t
begun_empty t n places = record {
  nowhere = λ k. ap (λ (p : VRegAllocsValue). alloc_of p k) places ∙ always n k NoPlace;
  none_held = λ r small. ap (λ (p : VRegAllocsValue). vreg_of_preg p r) places ∙ always 256 (bits_of_register r) None;
}

-- the machine's registers, as State::new sets them
pub begun_machine : (env : MachineValue) (t : StateValue) → ((r : Register) → r.number < 64 → has_register t.allocatable r ≡ true →
    is_allocatable env r.class r ≡ true)
    → ((r : Register) → has_register t.fixed_stack r ≡ true → IsFixedStackSlot env r) →
    ((r : Register) → IsFixedStackSlot env r → has_register t.fixed_stack r ≡ true) → t.dedicated_scratch ≡ env.scratch → HasMachine env t
begun_machine env t allocatable fixed memory dedicated_scratch = record {
  allocatable = allocatable;
  fixed_stack = fixed;
  memory = memory;
  dedicated_scratch = λ c r has. ap (λ (l : List (Option Register)). slice_index_or l (class_code c) None) (sym dedicated_scratch) ∙ has;
}

-- no vreg has a location, no vreg has a slot, and no move is pushed
pub begun_safe : (env : MachineValue) (Known : VirtualRegister → Type 0) (Writes : ℕ → VirtualRegister → ℕ → Type 0) (May : ℕ → Type 0) (t : StateValue)
    (n m : ℕ) (sizes : List ℕ) (by_last : Bool) {watched : List Bool} → t.places ≡ no_allocs n watched → t.slots ≡ no_slots m sizes by_last → t.edits ≡ [] →
    ((c : RegClass) → 0 < units_of (no_slots m sizes by_last) c) → HasMachine env t → IsSafe env Known Writes May t
begun_safe env Known Writes May t n m sizes by_last places slots none units machine =
    let e : IsEmpty t = begun_empty t n places in
    record {
      machine = machine;
      places = λ v known. subst (MayBeLocatedAtOrNone env t.slots v) (sym (e.nowhere v.number)) tt;
      holders = λ r v small held. absurd (no_some v (sym (e.none_held r small) ∙ held));
      slots = λ k. subst (IsSlotOrNone t.slots.count) (sym (ap (λ (s : SpillSlotsValue). slot_name s k) slots ∙ always m k NoPlace)) tt;
      units = λ c. subst (λ (s : SpillSlotsValue). 0 < units_of s c) (sym slots) (units c);
      edits = rw none (λ k d lt. absurd (omega arith));
    }
