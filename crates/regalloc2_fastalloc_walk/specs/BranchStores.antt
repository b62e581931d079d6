-- How a block's beginning stores what the branch into it defined: which values, by which moves, and through which
-- registers.
use Rattle.std.specs.Prelude.{ℕ, ◌≡◌, ◌≢◌, ◌+◌, ◌<◌, ◌≤◌, ◌++◌, ◌∷◌, [], Bool, false, true, not, List, All, Contains, length, sum_by, nat_eq, if◌then◌else◌}
use Rattle.std.specs.Prelude.{None, Some, slice_index_or}
use Rattle.regalloc2_names.specs.Register.{Register, VirtualRegister, no_vreg}
use Rattle.regalloc2_names.specs.Operand.{OperandValue}
use Rattle.regalloc2_names.specs.Place.{Place, NoPlace, InRegister, is_on_stack}
use Rattle.regalloc2_function.specs.FunctionValue.{FunctionValue, op_at}
use Rattle.regalloc2_carry.specs.Stores.{Store, moves_by, store_moves}
use Rattle.regalloc2_analysis.specs.BranchDefs.BranchDefs.{fixed_definition}
use Rattle.regalloc2_analysis.specs.BranchDefs.Tables.{site_of}
use Rattle.regalloc2_analysis.specs.declared.branch_defs.BranchDefs.{BranchDefs}
use Rattle.regalloc2_fastalloc_state.specs.StateParts.{SpillSlotsValue, GetsSpillSlot, NoneIsFrom, slot_name}
use Rattle.regalloc2_fastalloc_proofs.specs.InstSteps.{StateValue, Outcome, next, no_register}
use Rattle.regalloc2_fastalloc_proofs.specs.StoreSteps.{IsByWay, IsStoredFor, pushed_moves}
use Rattle.regalloc2_fastalloc_walk.specs.declared.store.StoreMove.{StoreMove}
use Rattle.regalloc2_fastalloc_walk.specs.declared.store.StoredDef.{StoredDef}

-- the tables say that the branch defines the argument of a parameter with a slot, by the operand j
abbrev pub IsArgumentStored : {A : Type 0} → BranchDefs A → ℕ → SpillSlotsValue → VirtualRegister → VirtualRegister → ℕ → Type 0
IsArgumentStored defs branch slots param argument j = (site_of defs argument.number ≡ Some (record { branch = branch; index = j }))
    × (slot_name slots param.number ≢ NoPlace)

-- an argument that the branch defines is listed, if its parameter has a slot
pub data ListsGiven {A : Type 0} (defs : BranchDefs A) (branch : ℕ) (slots : SpillSlotsValue) (param argument : VirtualRegister) (old new : List StoredDef) :
    Type 0 where
  listed : (j : ℕ) → IsArgumentStored defs branch slots param argument j → new ≡ old ++ record { index = j; to = param } ∷ []
      → ListsGiven defs branch slots param argument old new
  not_given : ((j : ℕ) → IsArgumentStored defs branch slots param argument j → ⊥) → new ≡ old → ListsGiven defs branch slots param argument old new

-- the arguments of the first k parameters are listed
pub data ListsParams {A : Type 0} (defs : BranchDefs A) (branch : ℕ) (slots : SpillSlotsValue) (params arguments : List VirtualRegister)
    (old : List StoredDef) : ℕ → List StoredDef → Type 0 where
  no_param : ListsParams defs branch slots params arguments old 0 old
  one_param : (k : ℕ) (m n : List StoredDef) → k < length params → ListsParams defs branch slots params arguments old k m →
      ListsGiven defs branch slots (slice_index_or params k no_vreg) (slice_index_or arguments k no_vreg) m n
      → ListsParams defs branch slots params arguments old (k + 1) n

-- what an operand defines, for its own vreg
abbrev pub own_store : List OperandValue → ℕ → StoredDef
own_store operands j = record { index = j; to = (op_at operands j).vreg }

-- 1 if a store is for the vreg of a number, else 0
abbrev pub is_for : ℕ → StoredDef → ℕ
is_for n s = if nat_eq s.to.number n then 1 else 0

-- exactly what is stored on the edge k out of the block e, each vreg once
pub record ListsStores (f : FunctionValue) (e k : ℕ) (slots : SpillSlotsValue) (stores : List StoredDef) : Type 0 where
  pub each : All (λ s. IsStoredFor f e k slots s.index s.to) stores
  pub all : (j : ℕ) (v : VirtualRegister) → IsStoredFor f e k slots j v → Contains stores (record { index = j; to = v })
  pub once : (n : ℕ) → sum_by (is_for n) stores ≤ 1

-- a branch leaves what an operand defines in the register that it is fixed to, or in its vreg's slot, which is made if
-- need be
pub data FindsDefined (o : OperandValue) (p : Place) (old new : SpillSlotsValue) : Type 0 where
  held : (r : Register) → fixed_definition o ≡ Some r → p ≡ InRegister r → new ≡ old → FindsDefined o p old new
  in_slot : fixed_definition o ≡ None → GetsSpillSlot old new o.vreg p → new.num_temp_slots ≡ old.num_temp_slots → FindsDefined o p old new

-- the move of what an operand defines to the slot of a vreg
pub record FindsStore (o : OperandValue) (to : VirtualRegister) (m : StoreMove) (old new : SpillSlotsValue) : Type 0 where
  pub middle : SpillSlotsValue
  pub from : FindsDefined o m.from old middle
  pub slot : GetsSpillSlot middle new to m.to
  pub temps : new.num_temp_slots ≡ middle.num_temp_slots
  pub class : m.class ≡ o.vreg.class

-- the default of an index past the end of a list of stores
abbrev pub no_store : StoredDef
no_store = record { index = 0; to = no_vreg }

-- the moves of the first k stores
pub data FindsStores (operands : List OperandValue) (stores : List StoredDef) (old : SpillSlotsValue) : ℕ → List StoreMove → SpillSlotsValue → Type 0 where
  none_found : FindsStores operands stores old 0 [] old
  one_found : (k : ℕ) (ms : List StoreMove) (m : StoreMove) (s t : SpillSlotsValue) → k < length stores → FindsStores operands stores old k ms s →
      FindsStore (op_at operands (slice_index_or stores k no_store).index) (slice_index_or stores k no_store).to m s t
      → FindsStores operands stores old (k + 1) (ms ++ m ∷ []) t

-- a move, as it is made: by way of a register where it is from the stack
pub record IsMadeOf (t : StateValue) (m : StoreMove) (s : Store) : Type 0 where
  pub from : s.from ≡ m.from
  pub to : s.to ≡ m.to
  pub direct : is_on_stack t.fixed_stack m.from ≡ false → s.by ≡ None
  pub by_way : IsByWay t m.class s

-- the moves from the stack, or the moves from registers, as they are made, in their order
pub data AreMadeOf (t : StateValue) (from_stack : Bool) : List StoreMove → List Store → Type 0 where
  none_made : AreMadeOf t from_stack [] []
  passed_over : (m : StoreMove) (ms : List StoreMove) (ss : List Store) → is_on_stack t.fixed_stack m.from ≡ not from_stack → AreMadeOf t from_stack ms ss →
      AreMadeOf t from_stack (m ∷ ms) ss
  one_made : (m : StoreMove) (s : Store) (ms : List StoreMove) (ss : List Store) → is_on_stack t.fixed_stack m.from ≡ from_stack → IsMadeOf t m s →
      AreMadeOf t from_stack ms ss
      → AreMadeOf t from_stack (m ∷ ms) (s ∷ ss)

-- the stores from the stack, or the stores from registers, are pushed at a point, the last store first
pub record PushesStores (point : ℕ) (from_stack : Bool) (ms : List StoreMove) (old new : StateValue) : Type 0 where
  pub stores : List Store
  pub made : AreMadeOf old from_stack ms stores
  pub pushed : new ≡ record old { edits = old.edits ++ pushed_moves point (store_moves stores) }

-- one of the moves is of a class that has no register
abbrev pub LacksStoreReg : StateValue → List StoreMove → Type 0
LacksStoreReg t ms = (m : StoreMove) × Contains ms m × NoneIsFrom t.allocatable m.class 0

-- the stores from the stack, or the stores from registers, are pushed at a point, or one lacks a register
abbrev pub PushStores : ℕ → Bool → List StoreMove → StateValue → Outcome (Unit {0}) → Type 0
PushStores point from_stack ms old (next x new) = PushesStores point from_stack ms old new
PushStores point from_stack ms old no_register = LacksStoreReg old ms

-- the stores from the stack are pushed first, and then the stores from registers
abbrev pub PushAllStores : ℕ → List StoreMove → StateValue → Outcome (Unit {0}) → Type 0
PushAllStores point ms old (next x new) = (middle : StateValue) × PushesStores point true ms old middle × PushesStores point false ms middle new
PushAllStores point ms old no_register = LacksStoreReg old ms

-- a store, by way of a register where it is from the stack
abbrev pub PushStore : ℕ → StoreMove → StateValue → Outcome (Unit {0}) → Type 0
PushStore point m old (next x new) = (s : Store) × IsMadeOf old m s × (new ≡ record old { edits = old.edits ++ pushed_moves point (moves_by s.from s.by s.to) })
PushStore point m old no_register = NoneIsFrom old.allocatable m.class 0
