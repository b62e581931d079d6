-- Slots as places.
use Rattle.std.proofs.Common.{ℕ, arith, ◌≤◌, ◌≡◌, ◌∙◌, subst}
use Rattle.regalloc2_names.specs.Register.{Register, VirtualRegister}
use Rattle.regalloc2_names.specs.Place.{Place, NoPlace, InRegister, InSlot}
use Rattle.regalloc2_fastalloc_state.specs.StateParts.{SpillSlotsValue, SlotsHaveOneOwner, GetsSpillSlot, IsSlotOrNone}

-- a slot is no register
pub slot_is_no_register : (old new : SpillSlotsValue) (v : VirtualRegister) (p : Place) (r : Register) → GetsSpillSlot old new v p → SlotsHaveOneOwner new
    → p ≡ InRegister r → ⊥
slot_is_no_register old new v p r gives owned e =
    subst (IsSlotOrNone new.count) (gives.gives ∙ e) (owned.below v.number)

-- a slot lies below a greater count too
pub slot_grows : (m n : ℕ) (p : Place) → m ≤ n → IsSlotOrNone m p → IsSlotOrNone n p
slot_grows m n NoPlace le h = h
slot_grows m n (InRegister r) le h = h
slot_grows m n (InSlot k) le h = omega arith
