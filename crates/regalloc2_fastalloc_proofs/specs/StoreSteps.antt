-- What the start of a block stores: the definitions of the branch that leads there, before all else.
use Rattle.std.specs.Prelude.{ℕ, ◌≡◌, ◌≢◌, ◌<◌, ◌⊎◌, ◌++◌, ◌∷◌, [], List, false, length, Option, None, Some, slice_index_or}
use Rattle.regalloc2_names.specs.declared.RegClass.{RegClass}
use Rattle.regalloc2_names.specs.Register.{Register, VirtualRegister, class_code, no_vreg}
use Rattle.regalloc2_names.specs.Operand.{OperandValue}
use Rattle.regalloc2_names.specs.Place.{Place, NoPlace, InRegister, is_on_stack, before}
use Rattle.regalloc2_function.specs.FunctionValue.{FunctionValue, block_at, inst_at, op_at, last_of}
use Rattle.regalloc2_function.specs.OutputValue.{MoveValue}
use Rattle.regalloc2_semantics.specs.Runs.{arguments_at}
use Rattle.regalloc2_semantics.specs.Sound.{target_at}
use Rattle.regalloc2_analysis.specs.BranchDefs.BranchDefs.{DefinesNumber, IsEdgeInto, IsStoredOperand, fixed_definition}
use Rattle.regalloc2_carry.specs.Stores.{Store, store_moves, IsOneOf, AreInOrder}
use Rattle.regalloc2_fastalloc_state.specs.StateParts.{SpillSlotsValue, GetsSpillSlot, NoneIsFrom, slot_name}
use Rattle.regalloc2_fastalloc_proofs.specs.InstSteps.{StateValue, Outcome, next, no_register, SameMachine, MayHold}

-- the operands of the branch at a block's end
abbrev pub branch_operands : FunctionValue → ℕ → List OperandValue
branch_operands f e = (inst_at f (last_of (block_at f e))).operands

-- the register to which a definition is fixed, or else its vreg's slot
abbrev pub fixed_or_slot : Option Register → Place → Place
fixed_or_slot (Some r) s = InRegister r
fixed_or_slot None s = s

-- the place where a branch leaves what an operand defines
abbrev pub defined_place : SpillSlotsValue → OperandValue → Place
defined_place slots o = fixed_or_slot (fixed_definition o) (slot_name slots o.vreg.number)

-- On the edge k out of the block e the value of the branch's operand j is stored for v: the operand defines v, is
-- fixed, and something else uses v; or v is a parameter, with a slot, to which the edge passes what the operand
-- defines.
pub data IsStoredFor (f : FunctionValue) (e k : ℕ) (slots : SpillSlotsValue) (j : ℕ) (v : VirtualRegister) : Type 0 where
  its_own : IsStoredOperand f (branch_operands f e) j → (op_at (branch_operands f e) j).vreg ≡ v → IsStoredFor f e k slots j v
  given : (n : ℕ) → n < length (block_at f (target_at f e k)).params → slice_index_or (block_at f (target_at f e k)).params n no_vreg ≡ v →
      DefinesNumber (branch_operands f e) (slice_index_or (arguments_at f e k) n no_vreg).number j → slot_name slots v.number ≢ NoPlace
      → IsStoredFor f e k slots j v

-- slots are made, where missing, for vregs with a property
pub data GetsSlots (P : VirtualRegister → Type 0) (old : SpillSlotsValue) : SpillSlotsValue → Type 0 where
  no_slot : GetsSlots P old old
  one_slot : (v : VirtualRegister) (p : Place) (m n : SpillSlotsValue) → GetsSlots P old m → P v → GetsSpillSlot m n v p
      → n.num_temp_slots ≡ m.num_temp_slots → GetsSlots P old n

-- what the branch at the end of the block e defines, and the parameters on the edge k
abbrev pub IsConcerned : FunctionValue → ℕ → ℕ → VirtualRegister → Type 0
IsConcerned f e k v = ((j : ℕ) × DefinesNumber (branch_operands f e) v.number j × ((op_at (branch_operands f e) j).vreg ≡ v))
    ⊎ ((n : ℕ) × (n < length (block_at f (target_at f e k)).params) × (slice_index_or (block_at f (target_at f e k)).params n no_vreg ≡ v))

-- the value of a branch's operand is stored at the start of the block b for v: v is what it defines, or a parameter to
-- which that is passed
abbrev pub IsStoredAt : FunctionValue → ℕ → VirtualRegister → Type 0
IsStoredAt f b v = (e k : ℕ) × IsEdgeInto f b e k × IsConcerned f e k v

-- a store from the stack goes through a register: the machine's dedicated one of the class, or an allocatable one
pub record IsByWay (t : StateValue) (class : RegClass) (s : Store) : Type 0 where
  pub direct : s.by ≡ None → is_on_stack t.fixed_stack s.from ≡ false
  pub through : (q : Place) → s.by ≡ Some q → (r : Register) × (q ≡ InRegister r)
      × ((slice_index_or t.dedicated_scratch (class_code class) None ≡ Some r) ⊎ MayHold t class r)

-- a store for v of what the operand j defines
pub record StoresFor (f : FunctionValue) (e k : ℕ) (old new : StateValue) (s : Store) (j : ℕ) (v : VirtualRegister) : Type 0 where
  pub stored : IsStoredFor f e k old.slots j v
  pub from : s.from ≡ defined_place new.slots (op_at (branch_operands f e) j)
  pub there : s.from ≢ NoPlace
  pub to : slot_name new.slots v.number ≡ s.to
  pub by_way : IsByWay old (op_at (branch_operands f e) j).vreg.class s

-- moves at a point in the order in which they are pushed: the last one first
unfoldable pub pushed_moves : ℕ → List MoveValue → List (ℕ × MoveValue)
pushed_moves point [] = []
pushed_moves point (m ∷ ms) = pushed_moves point ms ++ (point, m) ∷ []

-- the stores on the edge k out of the block e, each once, are pushed at a point
pub record StoresOn (f : FunctionValue) (e k point : ℕ) (old new : StateValue) : Type 0 where
  pub stores : List Store
  pub in_order : AreInOrder (is_on_stack old.fixed_stack) stores
  pub each : (s : Store) → IsOneOf s stores → (j : ℕ) × (v : VirtualRegister) × StoresFor f e k old new s j v
  pub all : (j : ℕ) (v : VirtualRegister) → IsStoredFor f e k old.slots j v → (s : Store) × IsOneOf s stores × StoresFor f e k old new s j v
  pub slots : GetsSlots (IsConcerned f e k) old.slots new.slots
  pub idle : ((j : ℕ) (v : VirtualRegister) → IsStoredFor f e k old.slots j v → ⊥) → new.slots ≡ old.slots
  pub places : new.places ≡ old.places
  pub edits : new.edits ≡ old.edits ++ pushed_moves point (store_moves stores)
  pub machine : SameMachine old new
  pub lrus : new.lrus ≡ old.lrus

-- the start of the block b stores what the branch into it defines
pub data StoresBranchDefs (f : FunctionValue) (b : ℕ) (old new : StateValue) : Type 0 where
  none_stored : ((e k : ℕ) → IsEdgeInto f b e k → ⊥) → new ≡ old → StoresBranchDefs f b old new
  all_stored : (e k : ℕ) → IsEdgeInto f b e k → StoresOn f e k (before (block_at f b).range.first) old new → StoresBranchDefs f b old new

-- a store is stack-to-stack, and its class has no allocatable register
pub record StoreHasNoRegister (f : FunctionValue) (b : ℕ) (old : StateValue) : Type 0 where
  pub from : ℕ
  pub position : ℕ
  pub index : ℕ
  pub vreg : VirtualRegister
  pub edge : IsEdgeInto f b from position
  pub stored : IsStoredFor f from position old.slots index vreg
  pub none : NoneIsFrom old.allocatable (op_at (branch_operands f from) index).vreg.class 0

-- a block's start stores the definitions of the branch into the block, or a stack-to-stack store lacks a register
abbrev pub StoreBranchDefs : FunctionValue → ℕ → StateValue → Outcome (Unit {0}) → Type 0
StoreBranchDefs f b old (next x new) = StoresBranchDefs f b old new
StoreBranchDefs f b old no_register = StoreHasNoRegister f b old
