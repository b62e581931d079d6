-- The allocator's tables, as contracts see them.
use Rattle.std.specs.Prelude.{ℕ, ◌≡◌, ◌≢◌, ◌+◌, ◌-◌, ◌*◌, ◌<◌, ◌≤◌, Bool, true, false, not, List, [], ◌∷◌, All, Any, Contains, filter, length, replicate}
use Rattle.std.specs.Prelude.{slice_index, slice_index_or, Option, None, Some, if◌then◌else◌, ◌&&◌, ◌||◌, ◌↔◌, ◌==◌, ◌^◌, min, nat_lt, is_none}
use Rattle.std.specs.Int.{next_multiple_of}
use Rattle.std.specs.List.{count_by}
use Rattle.regalloc2_names.specs.declared.RegClass.{RegClass}
use Rattle.regalloc2_names.specs.Register.{class_code, Register, VirtualRegister, has_register, empty_set}
use Rattle.regalloc2_parts.specs.Ring.{AreDistinctOf}
use Rattle.regalloc2_semantics.specs.Fits.{register_number}
use Rattle.regalloc2_function.specs.Machine.{count_below}
use Rattle.regalloc2_function.specs.OutputValue.{MoveValue}
use Rattle.regalloc2_names.specs.RegisterBits.{bits_of_register}
use Rattle.regalloc2_names.specs.declared.sets.PRegSet.{PRegSet}
use Rattle.regalloc2_names.specs.Place.{Place, NoPlace, InRegister, InSlot, is_place, is_in_register, is_no_place}

-- where the vregs are located, by number; which vreg is in each register, by index; the vregs in registers, the last
-- filled register's first; by number, which vregs are watched; and how often a watched vreg got its location or was
-- left without one
pub record VRegAllocsValue : Type 0 where
  pub vreg_allocs : List Place
  pub vreg_in_preg : List (Option VirtualRegister)
  pub in_registers : List VirtualRegister
  pub watched : List Bool
  pub changes : ℕ

-- the place where the vreg of a number is located
abbrev pub alloc_of : VRegAllocsValue → ℕ → Place
alloc_of t n = slice_index_or t.vreg_allocs n NoPlace

-- the vreg that is in a register
abbrev pub vreg_of_preg : VRegAllocsValue → Register → Option VirtualRegister
vreg_of_preg t r = slice_index_or t.vreg_in_preg (bits_of_register r) None

-- each table is the inverse of the other, and the list has the vregs that are in registers
pub record IsInverse (t : VRegAllocsValue) : Type 0 where
  pub registers : length t.vreg_in_preg ≡ 256
  pub small : (n : ℕ) (r : Register) → alloc_of t n ≡ InRegister r → r.number < 64
  pub known : (r : Register) (v : VirtualRegister) → r.number < 64 → vreg_of_preg t r ≡ Some v → v.number < length t.vreg_allocs
  pub holds : (r : Register) (v : VirtualRegister) → r.number < 64 → vreg_of_preg t r ≡ Some v → alloc_of t v.number ≡ InRegister r
  pub vreg_allocs : (n : ℕ) (r : Register) → alloc_of t n ≡ InRegister r → (v : VirtualRegister) × (v.number ≡ n) × (vreg_of_preg t r ≡ Some v)
  pub listed : (r : Register) (v : VirtualRegister) → r.number < 64 → vreg_of_preg t r ≡ Some v → Contains t.in_registers v
  pub only : (v : VirtualRegister) → Contains t.in_registers v → (r : Register) × (r.number < 64) × (vreg_of_preg t r ≡ Some v)

-- the last filled one of the registers that hold vregs
pub record IsNewest (t : VRegAllocsValue) (r : Register) : Type 0 where
  pub vreg : VirtualRegister
  pub rest : List VirtualRegister
  pub newest : t.in_registers ≡ vreg ∷ rest
  pub small : r.number < 64
  pub held : vreg_of_preg t r ≡ Some vreg

-- a list without the vreg of a number; and with a vreg in front of it, on a condition
abbrev pub without : ℕ → List VirtualRegister → List VirtualRegister
without n vregs = filter (λ v. not (v.number == n)) vregs

-- a list, with a vreg in front of it if the condition holds
abbrev pub in_front_if : Bool → VirtualRegister → List VirtualRegister → List VirtualRegister
in_front_if b v vregs = if b then v ∷ vregs else vregs

-- a list has the vreg of a number exactly on a condition
pub record HasIf (b : Bool) (vregs : List VirtualRegister) (n : ℕ) : Type 0 where
  pub has : b ≡ true → Any (λ v. v.number ≡ n) vregs
  pub absent : b ≡ false → All (λ v. v.number ≢ n) vregs

-- of n vregs none has a location, and no change of a watched vreg is counted
abbrev pub no_allocs : ℕ → List Bool → VRegAllocsValue
no_allocs n watched = record { vreg_allocs = replicate n NoPlace; vreg_in_preg = replicate 256 None; in_registers = []; watched = watched; changes = 0 }

-- the count of changes once the vreg of a number leaves a place for another: one more if it is watched and one of them
-- is none, up to the greatest `usize`
abbrev pub count_after : List Bool → ℕ → ℕ → Place → Place → ℕ
count_after watched changes n left place = if (is_no_place left || is_no_place place) && slice_index_or watched n false then min (changes + 1) (2 ^ 64 - 1)
    else changes

-- the place is the vreg's only location from now on; if it is a register, it is the last filled one
pub record SetsAlloc (old new : VRegAllocsValue) (v : VirtualRegister) (p : Place) : Type 0 where
  pub long : length new.vreg_allocs ≡ length old.vreg_allocs
  pub here : alloc_of new v.number ≡ p
  pub others : (n : ℕ) → n ≢ v.number → alloc_of new n ≡ alloc_of old n
  pub holders : (r : Register) → r.number < 64 →
      vreg_of_preg new r ≡ (if is_place p (InRegister r) then Some v else if is_place (alloc_of old v.number) (InRegister r) then None else vreg_of_preg old r)
  pub order : new.in_registers ≡ in_front_if (is_in_register p) v (without v.number old.in_registers)
  pub watched : new.watched ≡ old.watched
  pub changes : new.changes ≡ count_after old.watched old.changes v.number (alloc_of old v.number) p

-- a register of the table is given a vreg, or none; another place changes nothing
pub record SetsVRegInPReg (old new : List (Option VirtualRegister)) (p : Place) (v : Option VirtualRegister) : Type 0 where
  pub long : length new ≡ length old
  pub each : (r : Register) → r.number < 64 → slice_index_or new (bits_of_register r)
      None ≡ (if is_place p (InRegister r) then v else slice_index_or old (bits_of_register r) None)

-- the greatest number of units that all slots may take
abbrev pub most_units : ℕ
most_units = 16777216

-- the slots of the vregs, by number; how many units all slots take; how many temporary slots there are, which belong to
-- no vreg; the units of a slot of each class; whether a slot is named by its last unit
pub record SpillSlotsValue : Type 0 where
  pub vreg_spillslots : List Place
  pub count : ℕ
  pub num_temp_slots : ℕ
  pub sizes : List ℕ
  pub by_last : Bool

-- the slot of the vreg of a number, as a place
abbrev pub slot_name : SpillSlotsValue → ℕ → Place
slot_name s n = slice_index_or s.vreg_spillslots n NoPlace

-- how many units a slot of a class takes
abbrev pub units_of : SpillSlotsValue → RegClass → ℕ
units_of s class = slice_index s.sizes (class_code class)

-- where a new slot ends: it starts at the first multiple of its size at or past the units that are taken
abbrev pub slot_end : SpillSlotsValue → RegClass → ℕ
slot_end s class = next_multiple_of s.count (units_of s class) + units_of s class

-- the unit that names a new slot: its first or its last one
abbrev pub new_slot : SpillSlotsValue → RegClass → ℕ
new_slot s class = if s.by_last then slot_end s class - 1 else next_multiple_of s.count (units_of s class)

-- no place, or a slot below a count
abbrev pub IsSlotOrNone : ℕ → Place → Type 0
IsSlotOrNone count NoPlace = Unit {0}
IsSlotOrNone count (InRegister r) = ⊥
IsSlotOrNone count (InSlot n) = n < count

-- how many vregs have a slot
abbrev pub owners : SpillSlotsValue → ℕ
owners s = count_by (λ p. not (is_no_place p)) s.vreg_spillslots

-- a slot of no class takes more than `most` units
abbrev pub AreUpTo : ℕ → List ℕ → Type 0
AreUpTo most sizes = (c : ℕ) → c < 3 → slice_index sizes c ≤ most

-- no two vregs have the same slot
abbrev pub NoSlotIsShared : SpillSlotsValue → Type 0
NoSlotIsShared s = (m n k : ℕ) → slot_name s m ≡ InSlot k → slot_name s n ≡ InSlot k → m ≡ n

-- Each name has one owner, and lies below the count. A slot takes a unit at least, and is aligned to its size, so it
-- takes less than twice as many units.
pub record SlotsHaveOneOwner (s : SpillSlotsValue) : Type 0 where
  pub three : length s.sizes ≡ 3
  pub sizes : (c : ℕ) → c < 3 → 0 < slice_index s.sizes c × slice_index s.sizes c ≤ most_units
  pub few : s.count ≤ most_units
  pub below : (n : ℕ) → IsSlotOrNone s.count (slot_name s n)
  pub own : NoSlotIsShared s
  pub room : (most : ℕ) → AreUpTo most s.sizes → s.count ≤ (owners s + s.num_temp_slots) * (2 * most)
  pub some : s.num_temp_slots ≤ s.count

-- the vreg has the slot p, which it had or which is made for it
pub record GetsSpillSlot (old new : SpillSlotsValue) (v : VirtualRegister) (p : Place) : Type 0 where
  pub long : length new.vreg_spillslots ≡ length old.vreg_spillslots
  pub sizes : new.sizes ≡ old.sizes
  pub by_last : new.by_last ≡ old.by_last
  pub grows : old.count ≤ new.count
  pub gives : slot_name new v.number ≡ p
  pub there : p ≢ NoPlace
  pub below : IsSlotOrNone new.count p
  pub others : (n : ℕ) → n ≢ v.number → slot_name new n ≡ slot_name old n
  pub had : slot_name old v.number ≢ NoPlace → (p ≡ slot_name old v.number) × (new.count ≡ old.count)
  pub made : slot_name old v.number ≡ NoPlace → (p ≡ InSlot (new_slot old v.class)) × (new.count ≡ slot_end old v.class)

-- where a slot of a class ends that comes after k new ones of the class
abbrev pub later_end : SpillSlotsValue → RegClass → ℕ → ℕ
later_end s class k = next_multiple_of s.count (units_of s class) + k * units_of s class + units_of s class

-- the unit that names it
abbrev pub later_slot : SpillSlotsValue → RegClass → ℕ → ℕ
later_slot s class k = if s.by_last then later_end s class k - 1 else next_multiple_of s.count (units_of s class) + k * units_of s class

-- `taken` temporary slots of a class are added, which belong to no vreg
pub record AddsTempSlots (old new : SpillSlotsValue) (class : RegClass) (taken : ℕ) : Type 0 where
  pub vreg_spillslots : new.vreg_spillslots ≡ old.vreg_spillslots
  pub sizes : new.sizes ≡ old.sizes
  pub by_last : new.by_last ≡ old.by_last
  pub num_temp_slots : new.num_temp_slots ≡ old.num_temp_slots + taken
  pub none : taken ≡ 0 → new.count ≡ old.count
  pub some : (k : ℕ) → taken ≡ k + 1 → new.count ≡ later_end old class k

-- a table for n vregs, none of which has a slot
abbrev pub no_slots : ℕ → List ℕ → Bool → SpillSlotsValue
no_slots n sizes by_last = record { vreg_spillslots = replicate n NoPlace; count = 0; num_temp_slots = 0; sizes = sizes; by_last = by_last }

-- a move as it is kept until it is listed: its point, source and destination
abbrev pub kept_move : ℕ × Place × Place → ℕ × MoveValue
kept_move m = (m.0, record { from = m.1; to = m.2 })

-- the points of moves never rise in the order in which the moves were pushed
abbrev pub PointsDescend : List (ℕ × MoveValue) → Type 0
PointsDescend es = (i j : ℕ) (d : ℕ × MoveValue) → i ≤ j → j < length es → (slice_index_or es j d).0 ≤ (slice_index_or es i d).0

-- all moves are at a point or after it
abbrev pub AllAtOrAfter : ℕ → List (ℕ × MoveValue) → Type 0
AllAtOrAfter point es = All (λ e. point ≤ e.0) es

-- The allocatable registers, and for each class the order of their use, the most recently used first; the fixed stack
-- slots; the register of each class that is kept for stack-to-stack moves.
pub record AllocatableRegsValue : Type 0 where
  pub allocatable : PRegSet
  pub lrus : List (List Register)
  pub fixed_stack : PRegSet
  pub dedicated_scratch : List (Option Register)

-- what the machine has stays, in whatever order its registers were used
pub record SameRegisters (old new : AllocatableRegsValue) : Type 0 where
  pub allocatable : new.allocatable ≡ old.allocatable
  pub fixed_stack : new.fixed_stack ≡ old.fixed_stack
  pub dedicated_scratch : new.dedicated_scratch ≡ old.dedicated_scratch

-- whether there are fixed stack slots of a class, and no register that the machine keeps for stack-to-stack moves
abbrev pub needs_scratch_reserve : PRegSet → List (Option Register) → RegClass → Bool
needs_scratch_reserve stack dedicated_scratch class = nat_lt 0 (count_below (λ n. has_register stack (register_number class n)) 64)
    && is_none (slice_index_or dedicated_scratch (class_code class) None)

-- how many registers of the class are to be kept for stack-to-stack moves
abbrev pub scratch_reserve_for : PRegSet → List (Option Register) → RegClass → ℕ
scratch_reserve_for stack dedicated_scratch class = if needs_scratch_reserve stack dedicated_scratch class then 1 else 0

-- the LRU list of a class
abbrev pub lru_of : AllocatableRegsValue → RegClass → List Register
lru_of t class = slice_index_or t.lrus (class_code class) []

-- the LRU list of each class has its allocatable registers
pub record AreLrus (allocatable : PRegSet) (lrus : List (List Register)) : Type 0 where
  pub three : length lrus ≡ 3
  pub of_class : (c : RegClass) (r : Register) → Contains (slice_index_or lrus (class_code c) []) r → (r.class ≡ c) × (r.number < 64)
  pub has : (c : RegClass) (r : Register) → Contains (slice_index_or lrus (class_code c) []) r → has_register allocatable r ≡ true
  pub all : (r : Register) → r.number < 64 → has_register allocatable r ≡ true → Contains (slice_index_or lrus (class_code r.class) []) r

-- the sets of the allocatable registers of each class
abbrev pub AreSplit : PRegSet → List PRegSet → Type 0
AreSplit allocatable sets = (c : RegClass) (r : Register) → (has_register (slice_index_or sets (class_code c) empty_set) r ≡ true) ↔ (r.class ≡ c)
    × (has_register allocatable r ≡ true)

-- all registers of a set have the number of one
abbrev pub HasSmall : PRegSet → Type 0
HasSmall set = (r : Register) → has_register set r ≡ true → r.number < 64

-- an allocatable register of the class that is in a set
pub record IsLeastRecentIn (t : AllocatableRegsValue) (class : RegClass) (free : PRegSet) (r : Register) : Type 0 where
  pub of_class : r.class ≡ class
  pub small : r.number < 64
  pub allocatable : has_register t.allocatable r ≡ true
  pub free_there : has_register free r ≡ true

-- no allocatable register of the class is in the set
abbrev pub NoneIsIn : AllocatableRegsValue → RegClass → PRegSet → Type 0
NoneIsIn t class free = (r : Register) → r.number < 64 → r.class ≡ class → has_register t.allocatable r ≡ true → has_register free r ≡ false

-- no register of the class whose number is at or above a bound is in the set
abbrev pub NoneIsFrom : PRegSet → RegClass → ℕ → Type 0
NoneIsFrom set class bound = (r : Register) → r.class ≡ class → bound ≤ r.number → r.number < 64 → has_register set r ≡ false

-- the registers of a class in a set whose numbers are below a bound, each once
pub record AreThoseBelow (set : PRegSet) (class : RegClass) (bound : ℕ) (regs : List Register) : Type 0 where
  pub distinct : AreDistinctOf class regs
  pub small : All (λ r. r.number < bound) regs
  pub has : All (λ r. has_register set r ≡ true) regs
  pub all : (r : Register) → r.number < bound → r.class ≡ class → has_register set r ≡ true → Contains regs r

-- an LRU list of all allocatable registers of a class
pub record IsLruOf (allocatable : PRegSet) (class : RegClass) (ring : List Register) : Type 0 where
  pub of_class : (r : Register) → Contains ring r → (r.class ≡ class) × (r.number < 64)
  pub has : (r : Register) → Contains ring r → has_register allocatable r ≡ true
  pub all : (r : Register) → r.number < 64 → r.class ≡ class → has_register allocatable r ≡ true → Contains ring r
