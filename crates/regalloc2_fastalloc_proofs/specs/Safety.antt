-- The invariant of the tables along the whole walk, for operands under every constraint but `Limit`.
use Rattle.std.specs.Prelude.{ℕ, ◌≡◌, ◌≢◌, ◌<◌, ◌⊎◌, true, All, length, slice_index_or, None, Some}
use Rattle.regalloc2_names.specs.declared.RegClass.{RegClass}
use Rattle.regalloc2_names.specs.Register.{Register, VirtualRegister, class_code, has_register}
use Rattle.regalloc2_names.specs.Place.{Place, NoPlace, InRegister, InSlot}
use Rattle.regalloc2_function.specs.Machine.{MachineValue, is_allocatable, scratch_of, IsFixedStackSlot}
use Rattle.regalloc2_function.specs.OutputValue.{MoveValue}
use Rattle.regalloc2_semantics.specs.Faithful.{IsStackToStack}
use Rattle.regalloc2_fastalloc_state.specs.declared.inst_regs.InstRegs.{InstRegs}
use Rattle.regalloc2_fastalloc_state.specs.StateParts.{SpillSlotsValue, alloc_of, vreg_of_preg, slot_name, units_of, IsSlotOrNone}
use Rattle.regalloc2_fastalloc_proofs.specs.InstSteps.{StateValue}

-- the two tables of locations are inverse, and each slot is one vreg's own
pub record IsWhole (t : StateValue) : Type 0 where
  pub holds : (r : Register) (v : VirtualRegister) → r.number < 64 → vreg_of_preg t.places r ≡ Some v → alloc_of t.places v.number ≡ InRegister r
  pub stands_in : (n : ℕ) (r : Register) → alloc_of t.places n ≡ InRegister r → (r.number < 64)
      × ((v : VirtualRegister) × (v.number ≡ n) × (vreg_of_preg t.places r ≡ Some v))
  pub own_slot : (n k : ℕ) → alloc_of t.places n ≡ InSlot k → slot_name t.slots n ≡ InSlot k
  pub below : (n : ℕ) → IsSlotOrNone t.slots.count (slot_name t.slots n)
  pub own : (m n k : ℕ) → slot_name t.slots m ≡ InSlot k → slot_name t.slots n ≡ InSlot k → m ≡ n
  pub units : (c : RegClass) → 0 < units_of t.slots c

-- a register where values may be: an allocatable one, or a fixed stack slot
abbrev pub IsOfMachine : MachineValue → Register → Type 0
IsOfMachine env r = (is_allocatable env r.class r ≡ true) ⊎ IsFixedStackSlot env r

-- a place where a vreg may be: a register of its class that is the machine's, or its own slot
abbrev pub MayBeLocatedAt : MachineValue → SpillSlotsValue → VirtualRegister → Place → Type 0
MayBeLocatedAt env slots v NoPlace = ⊥
MayBeLocatedAt env slots v (InRegister r) = IsOfMachine env r × (r.class ≡ v.class)
MayBeLocatedAt env slots v (InSlot n) = slot_name slots v.number ≡ InSlot n

-- as `MayBeLocatedAt`, or the vreg has no location
abbrev pub MayBeLocatedAtOrNone : MachineValue → SpillSlotsValue → VirtualRegister → Place → Type 0
MayBeLocatedAtOrNone env slots v NoPlace = Unit {0}
MayBeLocatedAtOrNone env slots v (InRegister r) = IsOfMachine env r × (r.class ≡ v.class)
MayBeLocatedAtOrNone env slots v (InSlot n) = slot_name slots v.number ≡ InSlot n

-- an end of a move of a vreg's value: a place where the vreg may be, or the register reserved for moves of its class
abbrev pub IsEndOfMove : MachineValue → SpillSlotsValue → VirtualRegister → Place → Type 0
IsEndOfMove env slots v NoPlace = ⊥
IsEndOfMove env slots v (InRegister r) = (IsOfMachine env r × (r.class ≡ v.class)) ⊎ (scratch_of env v.class ≡ Some r)
IsEndOfMove env slots v (InSlot n) = slot_name slots v.number ≡ InSlot n

-- a move of a known vreg's value between such ends; into a slot only where Writes allows writing that vreg's value
pub record IsMoveOfValue (env : MachineValue) (Known : VirtualRegister → Type 0) (Writes : ℕ → VirtualRegister → ℕ → Type 0) (slots : SpillSlotsValue)
    (e : ℕ × MoveValue) : Type 0 where
  pub vreg : VirtualRegister
  pub known : Known vreg
  pub from : IsEndOfMove env slots vreg e.1.from
  pub to : IsEndOfMove env slots vreg e.1.to
  pub written : (n : ℕ) → e.1.to ≡ InSlot n → Writes e.0 vreg n

-- a register that moves of a class may go through: an allocatable one, or the one reserved for them
abbrev pub IsMoveReg : MachineValue → RegClass → Register → Type 0
IsMoveReg env class r = ((is_allocatable env r.class r ≡ true) × (r.class ≡ class)) ⊎ (scratch_of env class ≡ Some r)

-- an end of a move of a branch's arguments: a register for moves, or a slot, a vreg's or a temporary one
abbrev pub IsEndOfArgMove : MachineValue → SpillSlotsValue → RegClass → Place → Type 0
IsEndOfArgMove env slots class NoPlace = ⊥
IsEndOfArgMove env slots class (InRegister r) = IsMoveReg env class r
IsEndOfArgMove env slots class (InSlot n) = n < slots.count

-- a move of a branch's arguments of a class; into a known vreg's slot where Writes allows writing its value, or into a
-- slot that is no vreg's
pub record IsArgMove (env : MachineValue) (Known : VirtualRegister → Type 0) (Writes : ℕ → VirtualRegister → ℕ → Type 0) (slots : SpillSlotsValue)
    (e : ℕ × MoveValue) : Type 0 where
  pub class : RegClass
  pub from : IsEndOfArgMove env slots class e.1.from
  pub to : IsEndOfArgMove env slots class e.1.to
  pub written : (n : ℕ) → e.1.to ≡ InSlot n → ((v : VirtualRegister) × Known v × (slot_name slots v.number ≡ InSlot n) × Writes e.0 v n)
      ⊎ ((v : VirtualRegister) → Known v → slot_name slots v.number ≢ InSlot n)

-- a move of either kind, not stack-to-stack, at a point where moves may be
pub record IsSafeEdit (env : MachineValue) (Known : VirtualRegister → Type 0) (Writes : ℕ → VirtualRegister → ℕ → Type 0) (slots : SpillSlotsValue)
    (May : ℕ → Type 0) (e : ℕ × MoveValue) : Type 0 where
  pub moves : IsMoveOfValue env Known Writes slots e ⊎ IsArgMove env Known Writes slots e
  pub not_both : IsStackToStack env e.1 → ⊥
  pub point : May e.0

-- the tables have the machine's registers
pub record HasMachine (env : MachineValue) (t : StateValue) : Type 0 where
  pub allocatable : (r : Register) → r.number < 64 → has_register t.allocatable r ≡ true → is_allocatable env r.class r ≡ true
  pub fixed_stack : (r : Register) → has_register t.fixed_stack r ≡ true → IsFixedStackSlot env r
  pub memory : (r : Register) → IsFixedStackSlot env r → has_register t.fixed_stack r ≡ true
  pub dedicated_scratch : (c : RegClass) (r : Register) → slice_index_or t.dedicated_scratch (class_code c) None ≡ Some r → scratch_of env c ≡ Some r

-- each known vreg is at an allowed place or nowhere; registers hold no other vreg; slots and moves are valid, and each
-- slot has at least one unit
pub record IsSafe (env : MachineValue) (Known : VirtualRegister → Type 0) (Writes : ℕ → VirtualRegister → ℕ → Type 0) (May : ℕ → Type 0) (t : StateValue) : Type
    0 where
  pub machine : HasMachine env t
  pub places : (v : VirtualRegister) → Known v → MayBeLocatedAtOrNone env t.slots v (alloc_of t.places v.number)
  pub holders : (r : Register) (v : VirtualRegister) → r.number < 64 → vreg_of_preg t.places r ≡ Some v → Known v × IsOfMachine env r × (r.class ≡ v.class)
  pub slots : (n : ℕ) → IsSlotOrNone t.slots.count (slot_name t.slots n)
  pub units : (c : RegClass) → 0 < units_of t.slots c
  pub edits : All (IsSafeEdit env Known Writes t.slots May) t.edits

-- stack-to-stack moves go through allocatable registers of their class, where the machine has no dedicated one
pub record AreSafeRegs (env : MachineValue) (t : InstRegs) : Type 0 where
  pub three : length t.scratch ≡ 3
  pub scratch : (c : RegClass) (r : Register) → slice_index_or t.scratch (class_code c) None ≡ Some r → (is_allocatable env r.class r ≡ true) × (r.class ≡ c)
