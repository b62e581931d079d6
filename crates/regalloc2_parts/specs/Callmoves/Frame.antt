-- The free registers and the slots of a call's frame.
use Rattle.std.specs.Prelude.{ℕ, ◌≡◌, ◌+◌, ◌<◌, ◌≤◌, length, slice_index_or, Option, None, Some}
use Rattle.regalloc2_names.specs.Place.{Place, InRegister, InSlot}
use Rattle.regalloc2_names.specs.Register.{Register, invalid_register}
use Rattle.regalloc2_parts.specs.declared.callmoves.CallFrame.{CallFrame}

abbrev pub free_at : {A : Type 0} → CallFrame A → ℕ → Register
free_at f k = slice_index_or f.free_regs.items k invalid_register

-- the free register of index k, if it exists
abbrev pub IsRegisterAt : {A : Type 0} → CallFrame A → ℕ → Option Place → Type 0
IsRegisterAt f k None = length f.free_regs.items ≤ k
IsRegisterAt f k (Some p) = (k < length f.free_regs.items) × (p ≡ InRegister (free_at f k))

-- the slot of the range that is k after its start, if it exists
abbrev pub IsSlotAt : {A : Type 0} → CallFrame A → ℕ → Option Place → Type 0
IsSlotAt f k None = f.slots.«end» ≤ f.slots.start + k
IsSlotAt f k (Some p) = (f.slots.start + k < f.slots.«end») × (p ≡ InSlot (f.slots.start + k))
