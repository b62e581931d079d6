-- Why a machine doesn't fit a function: the first condition of `MachineFits` that fails.
-- First come the fixed stack slots, none of which is invalid; then the classes, Int, Float and Vector in this order, and of each class the
-- conditions in the order of `MachineMisfit`'s variants.
use Rattle.std.specs.Prelude.{◌≡◌, ◌≢◌, true, false, All, Contains, Some}
use Rattle.regalloc2_names.specs.Register.{Register, has_register, invalid_register}
use Rattle.regalloc2_names.specs.declared.RegClass.{RegClass}
use Rattle.regalloc2_names.specs.declared.RegClass.TheVariants.{Int, Float, Vector}
use Rattle.regalloc2_function.specs.FunctionValue.{FunctionValue}
use Rattle.regalloc2_function.specs.Machine.{MachineValue, is_allocatable, set_of, scratch_of}
use Rattle.regalloc2_function.specs.Fitting.{ClassFits, NamesClass, AreOfClass, AreListedOnce, IsScratchSound}
use Rattle.regalloc2_function.specs.Reasons.{IsFirstIn}
use Rattle.regalloc2_function.specs.declared.misfit.MachineMisfit.{MachineMisfit}
use Rattle.regalloc2_function.specs.declared.misfit.MachineMisfit.TheVariants.{InvalidSlot, OtherClass, ListedTwice, InvalidRegister}
use Rattle.regalloc2_function.specs.declared.misfit.MachineMisfit.TheVariants.{ScratchOfOtherClass, ScratchAllocatable, InvalidScratch}
use Rattle.regalloc2_function.specs.declared.misfit.MachineMisfit.TheVariants.{SlotAllocatable, SlotIsScratch, NoRegister}

-- no fixed stack slot is the invalid register
abbrev pub AreSlotsValid : MachineValue → Type 0
AreSlotsValid env = All (λ r. r ≢ invalid_register) env.fixed_stack_slots

-- what is tested before a class: the slots, or the classes before it
abbrev pub FitsBefore : FunctionValue → MachineValue → RegClass → Type 0
FitsBefore f env Int = AreSlotsValid env
FitsBefore f env Float = ClassFits f env Int
FitsBefore f env Vector = ClassFits f env Int × ClassFits f env Float

-- all conditions on the registers that are listed for a class
pub record AreRegistersSound (env : MachineValue) (class : RegClass) : Type 0 where
  pub of_class : AreOfClass env class
  pub listed_once : AreListedOnce env class
  pub valid : is_allocatable env class invalid_register ≡ false

-- a fixed stack slot is no register that serves a class
abbrev pub IsSlotApart : MachineValue → RegClass → Register → Type 0
IsSlotApart env class slot = (is_allocatable env class slot ≡ false) × (scratch_of env class ≢ Some slot)

-- what is tested before the scratch register of a class, and before the slots
pub record PassesRegisters (f : FunctionValue) (env : MachineValue) (class : RegClass) : Type 0 where
  pub before : FitsBefore f env class
  pub registers : AreRegistersSound env class

pub record PassesScratch (f : FunctionValue) (env : MachineValue) (class : RegClass) : Type 0 where
  pub before : FitsBefore f env class
  pub registers : AreRegistersSound env class
  pub scratch : IsScratchSound env class

-- the condition that a misfit names fails, and the conditions that are tested before it hold
abbrev pub IsMisfit : FunctionValue → MachineValue → MachineMisfit → Type 0
IsMisfit f env InvalidSlot = Contains env.fixed_stack_slots invalid_register
IsMisfit f env (OtherClass class r) = FitsBefore f env class × (is_allocatable env class r ≡ true) × (r.class ≢ class)
IsMisfit f env (ListedTwice class r) = FitsBefore f env class × AreOfClass env class × (has_register (set_of env.preferred class) r ≡ true)
    × (has_register (set_of env.non_preferred class) r ≡ true)
IsMisfit f env (InvalidRegister class) = FitsBefore f env class × AreOfClass env class × AreListedOnce env class
    × (is_allocatable env class invalid_register ≡ true)
IsMisfit f env (ScratchOfOtherClass class r) = PassesRegisters f env class × (scratch_of env class ≡ Some r) × (r.class ≢ class)
IsMisfit f env (ScratchAllocatable class r) = PassesRegisters f env class × (scratch_of env class ≡ Some r) × (r.class ≡ class)
    × (is_allocatable env class r ≡ true)
IsMisfit f env (InvalidScratch class) = PassesRegisters f env class × (scratch_of env class ≡ Some invalid_register) × (Int ≡ class)
IsMisfit f env (SlotAllocatable class r) = PassesScratch f env class × IsFirstIn (IsSlotApart env class) env.fixed_stack_slots r × (is_allocatable env class r ≡ true)
IsMisfit f env (SlotIsScratch class r) = PassesScratch f env class × IsFirstIn (IsSlotApart env class) env.fixed_stack_slots r × (is_allocatable env class r ≡ false)
    × (scratch_of env class ≡ Some r)
IsMisfit f env (NoRegister class) =
    PassesScratch f env class × All (IsSlotApart env class) env.fixed_stack_slots × NamesClass f class × ((r : Register) → is_allocatable env class r ≡ false)
