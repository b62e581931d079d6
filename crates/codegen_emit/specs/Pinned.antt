-- Where the machine keeps the numbers of the allocator's places. Registers stay what they are; the first five slots are callee-saved registers, which the
-- allocator doesn't allocate, and the others are the frame's slots.
use Rattle.std.specs.Prelude.{ℕ, zero, suc, ◌-◌, List, [], ◌∷◌, Bool, ◌&&◌}
use Rattle.regalloc2_names.specs.Place.{Place, NoPlace, InRegister, InSlot}
use Rattle.codegen_machine.specs.declared.Source.{Source}
use Rattle.codegen_machine.specs.declared.Source.TheVariants.{Register, Slot}
use Rattle.codegen_machine.specs.Calls.{is_caller_saved}
use Rattle.codegen_machine.specs.Machine.{is_general}
use Rattle.codegen_emit.specs.declared.placement.MachinePlace.{MachinePlace}
use Rattle.codegen_emit.specs.declared.placement.MachinePlace.TheVariants.{Register as AtRegister, Slot as AtSlot}

-- The registers that the allocator allocates: the registers that hold numbers and that a call may change, rax, rcx, rdx, and rsi to r11.
abbrev pub is_allocated : ℕ → Bool
is_allocated r = is_general r && is_caller_saved r

-- the place of a slot that is kept in one of these registers, one slot in each, or past them in the frame
abbrev pub place_in : List ℕ → ℕ → MachinePlace
place_in [] k = AtSlot k
place_in (r ∷ rs) zero = AtRegister r
place_in (r ∷ rs) (suc k) = place_in rs k

-- the machine's place for one of the allocator's slots: rbx, rbp, r12, r13, r14, and then the frame
abbrev pub slot_place : ℕ → MachinePlace
slot_place = place_in (3 ∷ 5 ∷ 12 ∷ 13 ∷ 14 ∷ [])

-- how many slots the frame has for n slots of the allocator's
abbrev pub frame_slots : ℕ → ℕ
frame_slots n = n - 5

-- the register number used where no register can be named
abbrev pub no_register : ℕ
no_register = 16

-- the machine's place for a place of the allocator
abbrev pub machine_place : Place → MachinePlace
machine_place NoPlace = AtRegister no_register
machine_place (InRegister r) = AtRegister r.number
machine_place (InSlot k) = slot_place k

-- the register of a place; a slot has none
abbrev pub register_at : MachinePlace → ℕ
register_at (AtRegister r) = r
register_at (AtSlot k) = no_register

-- a place to read from
abbrev pub source_at : MachinePlace → Source
source_at (AtRegister r) = Register r
source_at (AtSlot k) = Slot k
