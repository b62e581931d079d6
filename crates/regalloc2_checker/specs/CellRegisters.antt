-- The registers of a machine in which values may be, as sets.
use Rattle.std.specs.Prelude.{◌≡◌, ◌↔◌, true, slice_index_or}
use Rattle.regalloc2_names.specs.declared.RegClass.{RegClass}
use Rattle.regalloc2_names.specs.declared.sets.PRegSet.{PRegSet}
use Rattle.regalloc2_names.specs.Register.{Register, class_code, has_register, empty_set}
use Rattle.regalloc2_names.specs.Place.{Place, NoPlace, InRegister, InSlot}
use Rattle.regalloc2_function.specs.Machine.{MachineValue, is_allocatable}
use Rattle.regalloc2_checker.specs.CheckInputs.{AreStackSlots}
use Rattle.regalloc2_checker.specs.declared.cell_registers.CellRegisters.{CellRegisters}

-- a place is one of some registers
abbrev pub IsPlaceIn : PRegSet → Place → Type 0
IsPlaceIn regs NoPlace = ⊥
IsPlaceIn regs (InRegister r) = has_register regs r ≡ true
IsPlaceIn regs (InSlot n) = ⊥

-- a place is a register that may be allocated to a class
abbrev pub IsAllocatablePlace : MachineValue → RegClass → Place → Type 0
IsAllocatablePlace env class NoPlace = ⊥
IsAllocatablePlace env class (InRegister r) = is_allocatable env class r ≡ true
IsAllocatablePlace env class (InSlot n) = ⊥

-- the sets are a machine's
pub record AreCellRegisters (env : MachineValue) (regs : CellRegisters) : Type 0 where
  pub slots : AreStackSlots env regs.slots
  pub by_class : (class : RegClass) (r : Register) → has_register (slice_index_or regs.by_class (class_code class) empty_set) r ≡ is_allocatable env class r
  pub any : (r : Register) → (has_register regs.any r ≡ true) ↔ ((class : RegClass) × (is_allocatable env class r ≡ true))
