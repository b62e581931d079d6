-- Valid places (`IsValidPlace`), and spill slots as memory: who owns each, which units it stands for, and how many units slots may take.
-- What upstream's allocators take for granted of places. Cells are kept by name; the facts on slots make the names real, disjoint memory.
use Rattle.std.specs.Prelude.{ℕ, ◌≡◌, ◌<◌, ◌⊎◌, true, false, All, length, Some, ◌≢◌, ◌+◌, ◌-◌, ◌%◌, ◌≤◌, if◌then◌else◌, Any as SomeIn, ◌*◌}
use Rattle.std.specs.Prelude.{max}
use Rattle.regalloc2_names.specs.declared.RegClass.{RegClass}
use Rattle.regalloc2_names.specs.declared.RegClass.TheVariants.{Int, Float, Vector}
use Rattle.regalloc2_names.specs.Register.{Register, VirtualRegister}
use Rattle.regalloc2_names.specs.Operand.{is_fixed_nonallocatable}
use Rattle.regalloc2_names.specs.Place.{Place, NoPlace, InRegister, InSlot}
use Rattle.regalloc2_function.specs.FunctionValue.{FunctionValue, inst_at, EachOperand, slot_size}
use Rattle.regalloc2_function.specs.Machine.{MachineValue, is_allocatable, scratch_of, IsFixedStackSlot}
use Rattle.regalloc2_function.specs.OutputValue.{OutputValue, allocs_of, place_at}

-- a place that may hold a value of a class
abbrev pub IsValidPlace : MachineValue → OutputValue → RegClass → Place → Type 0
IsValidPlace env out class NoPlace = ⊥
IsValidPlace env out class (InRegister r) = (is_allocatable env class r ≡ true) ⊎ (IsFixedStackSlot env r × (r.class ≡ class))
IsValidPlace env out class (InSlot n) = n < out.num_spillslots

-- an end of a move
abbrev pub IsMoveEnd : MachineValue → OutputValue → Place → Type 0
IsMoveEnd env out p = (c : RegClass) × (IsValidPlace env out c p ⊎ ((r : Register) × (scratch_of env c ≡ Some r) × (p ≡ InRegister r)))

-- The places of all operands that name a vreg, and both ends of all moves, are valid.
pub record PlacesAreValid (f : FunctionValue) (env : MachineValue) (out : OutputValue) : Type 0 where
  pub operands : (i : ℕ) → i < length f.insts → EachOperand (inst_at f i) (λ k o.
      is_fixed_nonallocatable o ≡ false → IsValidPlace env out o.vreg.class (place_at (allocs_of out i) k))
  pub moves : All (λ e. IsMoveEnd env out e.1.from × IsMoveEnd env out e.1.to) out.edits

-- whose values a slot holds: a vreg's, or the values that a branch's moves of arguments save in its slot of an index for a class
pub data Owner : Type 0 where
  OfVReg : VirtualRegister → Owner
  OfBranch : (branch : ℕ) (class : RegClass) (index : ℕ) → Owner

abbrev pub class_of_owner : Owner → RegClass
class_of_owner (OfVReg v) = v.class
class_of_owner (OfBranch branch class index) = class

-- the output names the slot: as an operand's place, in a move or in a debug location
abbrev pub IsSlotOf : OutputValue → ℕ → Type 0
IsSlotOf out n = SomeIn (λ p. p ≡ InSlot n) out.allocs ⊎ SomeIn (λ e. (e.1.from ≡ InSlot n) ⊎ (e.1.to ≡ InSlot n)) out.edits
    ⊎ SomeIn (λ d. d.place ≡ InSlot n) out.debug_locations

-- how many units an owner's slot takes, and the first of them if the slot has the number n
abbrev pub units_of_owner : FunctionValue → Owner → ℕ
units_of_owner f owner = slot_size f.slot_sizes (class_of_owner owner)

abbrev pub first_unit : FunctionValue → Owner → ℕ → ℕ
first_unit f owner n = if f.named_by_last_slot then n + 1 - units_of_owner f owner else n

-- the class of the values that a place holds
abbrev pub IsOfClass : (ℕ → Owner) → Place → RegClass → Type 0
IsOfClass owner NoPlace class = ⊥
IsOfClass owner (InRegister r) class = r.class ≡ class
IsOfClass owner (InSlot n) class = class_of_owner (owner n) ≡ class

-- Each slot has an owner of its own, a vreg or a branch; it stands for as many units as its owner's class takes, aligned to that number and below the count;
-- the units of two slots are apart; operands are in their own vreg's slot; and both ends of a move are of one class.
pub record AreSlotsOwned (f : FunctionValue) (out : OutputValue) : Type 0 where
  pub owner : ℕ → Owner
  pub own : (m n : ℕ) → IsSlotOf out m → IsSlotOf out n → owner m ≡ owner n → m ≡ n
  pub branches : (n i : ℕ) (class : RegClass) (index : ℕ) → IsSlotOf out n → owner n ≡ OfBranch i class index → (i < length f.insts)
      × ((inst_at f i).is_branch ≡ true)
  pub operands : (i : ℕ) → i < length f.insts → EachOperand (inst_at f i) (λ k o. (n : ℕ) → place_at (allocs_of out i) k ≡ InSlot n → owner n ≡ OfVReg o.vreg)
  pub named : (n : ℕ) → IsSlotOf out n → f.named_by_last_slot ≡ true → units_of_owner f (owner n) ≤ n + 1
  pub aligned : (n : ℕ) → IsSlotOf out n → first_unit f (owner n) n % units_of_owner f (owner n) ≡ 0
  pub within : (n : ℕ) → IsSlotOf out n → first_unit f (owner n) n + units_of_owner f (owner n) ≤ out.num_spillslots
  pub apart : (m n : ℕ) → IsSlotOf out m → IsSlotOf out n → m ≢ n →
      (first_unit f (owner m) m + units_of_owner f (owner m) ≤ first_unit f (owner n) n)
      ⊎ (first_unit f (owner n) n + units_of_owner f (owner n) ≤ first_unit f (owner m) m)
  pub moves : All (λ e. (class : RegClass) × IsOfClass owner e.1.from class × IsOfClass owner e.1.to class) out.edits

-- How many units slots may take: each less than twice the greatest size, since it is aligned; there is one at most for each vreg, and six for the moves of
-- each block.
abbrev pub units_at_most : FunctionValue → ℕ
units_at_most f =
    2 * max (slot_size f.slot_sizes Int) (max (slot_size f.slot_sizes Float) (slot_size f.slot_sizes Vector)) * (f.num_vregs + 6 * length f.blocks)
