-- The slots that were made, the last one first, each with its owner and its units.
use Rattle.std.specs.Prelude.{ℕ, ◌≡◌, ◌≢◌, ◌+◌, ◌-◌, ◌%◌, ◌<◌, ◌≤◌, Bool, true, List, All, Contains, length, slice_index, slice_index_or, if◌then◌else◌}
use Rattle.regalloc2_names.specs.Register.{VirtualRegister, class_code}
use Rattle.regalloc2_names.specs.declared.RegClass.{RegClass}
use Rattle.regalloc2_names.specs.Place.{Place, NoPlace, InRegister, InSlot, before}
use Rattle.regalloc2_function.specs.OutputValue.{MoveValue}
use Rattle.regalloc2_semantics.specs.Places.{Owner, OfVReg, OfBranch, class_of_owner}
use Rattle.regalloc2_fastalloc_state.specs.StateParts.{SpillSlotsValue, slot_name}

-- a slot that was made: its owner and its name
pub record OwnedSlot : Type 0 where
  pub owner : Owner
  pub name : ℕ

-- how many units a slot has, and the first of them
abbrev pub units_in : List ℕ → Owner → ℕ
units_in sizes owner = slice_index sizes (class_code (class_of_owner owner))

-- the first unit of a slot, by its name and size
abbrev pub start_in : Bool → ℕ → ℕ → ℕ
start_in by_last size name = if by_last then name + 1 - size else name

-- the first unit of a slot that was made
abbrev pub start_of_slot : List ℕ → Bool → OwnedSlot → ℕ
start_of_slot sizes by_last c = start_in by_last (units_in sizes c.owner) c.name

-- the unit after the last one of a slot that was made
abbrev pub end_of_slot : List ℕ → Bool → OwnedSlot → ℕ
end_of_slot sizes by_last c = start_of_slot sizes by_last c + units_in sizes c.owner

-- a slot's units are aligned to their number and below the count
pub record IsLaidOut (sizes : List ℕ) (by_last : Bool) (count : ℕ) (c : OwnedSlot) : Type 0 where
  pub some : 0 < units_in sizes c.owner
  pub named : by_last ≡ true → units_in sizes c.owner ≤ c.name + 1
  pub aligned : start_of_slot sizes by_last c % units_in sizes c.owner ≡ 0
  pub within : end_of_slot sizes by_last c ≤ count

-- each slot is above the slots that were made before it
abbrev pub AreSlotsApart : List ℕ → Bool → List OwnedSlot → Type 0
AreSlotsApart sizes by_last made = (i j : ℕ) (d : OwnedSlot) → i < j → j < length made →
    end_of_slot sizes by_last (slice_index_or made j d) ≤ start_of_slot sizes by_last (slice_index_or made i d)

-- no two slots have one owner
abbrev pub HaveDistinctOwners : List OwnedSlot → Type 0
HaveDistinctOwners made = (i j : ℕ) (d : OwnedSlot) → i < j → j < length made → (slice_index_or made i d).owner ≢ (slice_index_or made j d).owner

-- a slot whose owner is a vreg is the one that the tables give the vreg
abbrev pub IsOwnSlot : SpillSlotsValue → OwnedSlot → Type 0
IsOwnSlot s c = (v : VirtualRegister) → c.owner ≡ OfVReg v → slot_name s v.number ≡ InSlot c.name

-- all slots are laid out, the slots of known vregs among them
pub record AreLaidOut (Known : VirtualRegister → Type 0) (s : SpillSlotsValue) (made : List OwnedSlot) : Type 0 where
  pub each : All (IsLaidOut s.sizes s.by_last s.count) made
  pub apart : AreSlotsApart s.sizes s.by_last made
  pub differ : HaveDistinctOwners made
  pub known : (v : VirtualRegister) → Known v → (k : ℕ) → slot_name s v.number ≡ InSlot k → Contains made (record { owner = OfVReg v; name = k })
  pub own : All (IsOwnSlot s) made

-- the slots once some more were made, all of them with a property
pub record LaysOut (Known : VirtualRegister → Type 0) (Holds : OwnedSlot → Type 0) (s : SpillSlotsValue) (before_it : List OwnedSlot) : Type 0 where
  pub made : List OwnedSlot
  pub laid : AreLaidOut Known s made
  pub kept : (c : OwnedSlot) → Contains before_it c → Contains made c
  pub all : All Holds made

-- a name is that of a slot that was made
abbrev pub IsNameOfSlot : List OwnedSlot → ℕ → Type 0
IsNameOfSlot made n = (c : OwnedSlot) × Contains made c × (c.name ≡ n)

-- moves at a point may name the slot of an owner: a branch's slot only serves the moves before that branch
abbrev pub ServesAt : ℕ → Owner → Type 0
ServesAt point (OfVReg v) = Unit {0}
ServesAt point (OfBranch branch class index) = point ≡ before branch

-- an end of a move of values of a class at a point: a register of the class, or a slot that serves there, whose owner
-- is of the class
abbrev pub IsEndOf : List OwnedSlot → ℕ → RegClass → Place → Type 0
IsEndOf made point class NoPlace = ⊥
IsEndOf made point class (InRegister r) = r.class ≡ class
IsEndOf made point class (InSlot n) = (c : OwnedSlot) × Contains made c × (c.name ≡ n) × (class_of_owner c.owner ≡ class) × ServesAt point c.owner

-- the two ends of a move are of one class
abbrev pub IsOfOneClass : List OwnedSlot → ℕ × MoveValue → Type 0
IsOfOneClass made e = (class : RegClass) × IsEndOf made e.0 class e.1.from × IsEndOf made e.0 class e.1.to
