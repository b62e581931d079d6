-- Places and program points, as contracts see them.
use Rattle.std.specs.Prelude.{ℕ, ◌≡◌, ◌≤◌, ◌⊎◌, Option, None, Some, Bool, true, false, nat_eq, ◌<◌, ◌+◌, ◌*◌, ◌/◌, ◌%◌, nat_lt, if◌then◌else◌}
use Rattle.regalloc2_index.specs.Range.{invalid_number}
use Rattle.regalloc2_names.specs.declared.AllocationKind.{AllocationKind}
use Rattle.regalloc2_names.specs.declared.AllocationKind.TheVariants.{None as NoKind, Reg as RegKind, Stack as StackKind}
use Rattle.regalloc2_names.specs.declared.sets.PRegSet.{PRegSet}
use Rattle.regalloc2_names.specs.declared.InstPosition.{InstPosition}
use Rattle.regalloc2_names.specs.declared.InstPosition.TheVariants.{Before, After}
use Rattle.regalloc2_names.specs.Register.{Register, is_register, has_register}

-- a place: none, a register or a spill slot
pub data Place : Type 0 where
  NoPlace : Place
  InRegister : Register → Place
  InSlot : ℕ → Place

abbrev pub register_of_place : Place → Option Register
register_of_place NoPlace = None
register_of_place (InRegister r) = Some r
register_of_place (InSlot n) = None

abbrev pub slot_of_place : Place → Option ℕ
slot_of_place NoPlace = None
slot_of_place (InRegister r) = None
slot_of_place (InSlot n) = Some n

-- which of the three forms a place has
abbrev pub kind_of_place : Place → AllocationKind
kind_of_place NoPlace = NoKind
kind_of_place (InRegister r) = RegKind
kind_of_place (InSlot n) = StackKind

abbrev pub is_no_place : Place → Bool
is_no_place NoPlace = true
is_no_place (InRegister r) = false
is_no_place (InSlot n) = false

abbrev pub is_in_register : Place → Bool
is_in_register NoPlace = false
is_in_register (InRegister r) = true
is_in_register (InSlot n) = false

abbrev pub is_in_slot : Place → Bool
is_in_slot NoPlace = false
is_in_slot (InRegister r) = false
is_in_slot (InSlot n) = true

-- a stack place: a spill slot, or a register that names a fixed stack slot
abbrev pub is_on_stack : PRegSet → Place → Bool
is_on_stack fixed_stack NoPlace = false
is_on_stack fixed_stack (InRegister r) = has_register fixed_stack r
is_on_stack fixed_stack (InSlot n) = true

-- the places are equal
abbrev pub is_place : Place → Place → Bool
is_place NoPlace NoPlace = true
is_place (InRegister r) (InRegister s) = is_register r s
is_place (InSlot m) (InSlot n) = nat_eq m n
is_place NoPlace (InRegister s) = false
is_place NoPlace (InSlot n) = false
is_place (InRegister r) NoPlace = false
is_place (InRegister r) (InSlot n) = false
is_place (InSlot m) NoPlace = false
is_place (InSlot m) (InRegister s) = false

-- spill slots' numbers are below
abbrev pub slot_limit : ℕ
slot_limit = 16777216

-- the number of the invalid spill slot, and the numbers that a spill slot may have
abbrev pub invalid_slot : ℕ
invalid_slot = 4294967295

abbrev pub IsSlotNumber : ℕ → Type 0
IsSlotNumber n = (n ≤ 16777215) ⊎ (n ≡ invalid_slot)

-- the point before an instruction
abbrev pub before : ℕ → ℕ
before i = 2 * i

-- the point after an instruction
abbrev pub after : ℕ → ℕ
after i = 2 * i + 1

-- the point at a position of an instruction
abbrev pub point_at : ℕ → InstPosition → ℕ
point_at i Before = before i
point_at i After = after i

-- the numbers of instructions that have points are below it
abbrev pub inst_limit : ℕ
inst_limit = 1073741824

-- the number of an invalid instruction, and the points before and after it
abbrev pub invalid_inst : ℕ
invalid_inst = invalid_number

abbrev pub invalid_point : InstPosition → ℕ
invalid_point Before = 4294967294
invalid_point After = 4294967295

-- the numbers of the points of instructions are below
abbrev pub point_limit : ℕ
point_limit = 2147483648

-- the numbers of points: the points of instructions, and the two points of the invalid instruction
abbrev pub IsPointNumber : ℕ → Type 0
IsPointNumber n = (n < point_limit) ⊎ (n ≡ 4294967294) ⊎ (n ≡ 4294967295)

-- the instruction of a point
abbrev pub inst_of_point : ℕ → ℕ
inst_of_point p = if nat_lt p point_limit then p / 2 else invalid_inst

-- the position of a point, before or after its instruction
abbrev pub position_of_point : ℕ → InstPosition
position_of_point p = if nat_eq (p % 2) 0 then Before else After
