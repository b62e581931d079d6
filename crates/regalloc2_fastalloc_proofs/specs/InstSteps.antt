-- What the steps of the walk do to the tables, for operands under every constraint but `Limit`.
-- A relation named after a function of the walk, such as `AddMove`, relates a state to its outcome: the next state, or
-- an error because a register is missing. In the third person, such as `AddsMove`, it is the case with a next state.
use Rattle.std.specs.Prelude.{ℕ, ◌≡◌, ◌≢◌, ◌+◌, ◌<◌, ◌⊎◌, Bool, true, false, not, ◌&&◌, ◌||◌, List, [], ◌∷◌, ◌++◌, length, Option, None, Some, slice_index}
use Rattle.std.specs.Prelude.{slice_index_or, slice_set, ◌-◌, ◌≤◌, nat_eq, is_none, filter, if◌then◌else◌}
use Rattle.regalloc2_names.specs.declared.RegClass.{RegClass}
use Rattle.regalloc2_names.specs.declared.OperandConstraint.{OperandConstraint}
use Rattle.regalloc2_names.specs.declared.OperandConstraint.TheVariants.{Any, Reg, Stack, FixedReg, Reuse, Limit}
use Rattle.regalloc2_names.specs.declared.sets.PRegSet.{PRegSet}
use Rattle.regalloc2_names.specs.Register.{Register, VirtualRegister, class_code, is_register, has_register, registers_of}
use Rattle.regalloc2_names.specs.Place.{is_on_stack, Place, NoPlace, InRegister, InSlot, is_place, before, after}
use Rattle.regalloc2_names.specs.Operand.{OperandValue, is_def, is_late, is_reading, is_fixed_nonallocatable}
use Rattle.std.specs.List.{count_by}
use Rattle.regalloc2_semantics.specs.Fits.{is_under_reg}
use Rattle.regalloc2_function.specs.FunctionValue.{InstValue, op_at}
use Rattle.regalloc2_function.specs.OutputValue.{MoveValue}
use Rattle.regalloc2_fastalloc_state.specs.StateParts.{VRegAllocsValue, SpillSlotsValue, alloc_of, vreg_of_preg, SetsAlloc, GetsSpillSlot, slot_name}
use Rattle.regalloc2_fastalloc_state.specs.StateParts.{needs_scratch_reserve}
use Rattle.regalloc2_fastalloc_state.specs.Choice.{chosen}
use Rattle.regalloc2_fastalloc_state.specs.InstRegs.{IsAvailableAt, RemovesAvailable, SameAvailable, awaited_of, free_count, is_free, is_available_at}
use Rattle.regalloc2_fastalloc_state.specs.InstRegs.{is_free_throughout}
use Rattle.regalloc2_fastalloc_state.specs.Positions.{positions_of, both_positions}
use Rattle.regalloc2_fastalloc_state.specs.declared.inst_regs.InstRegs.{InstRegs}
use Rattle.regalloc2_fastalloc_state.specs.declared.positions.Positions.{Positions}
use Rattle.regalloc2_fastalloc_state.specs.declared.request.Requirement.{Requirement}
use Rattle.regalloc2_fastalloc_state.specs.declared.request.Requirement.TheVariants.{AnyPlace, AnyReg, OnStack, InPReg}
use Rattle.regalloc2_fastalloc_state.specs.declared.request.OperandRequest.{OperandRequest}

-- the tables of the walk; the moves in the order in which they were pushed; the machine's registers; and for each class
-- its allocatable registers, the most recently used first
pub record StateValue : Type 0 where
  pub places : VRegAllocsValue
  pub slots : SpillSlotsValue
  pub edits : List (ℕ × MoveValue)
  pub allocatable : PRegSet
  pub fixed_stack : PRegSet
  pub dedicated_scratch : List (Option Register)
  pub lrus : List (List Register)

-- the registers of a class, the most recently used first
abbrev pub order_of : StateValue → RegClass → List Register
order_of t class = slice_index_or t.lrus (class_code class) []

-- the machine's registers, the slot sizes, the number of vregs and the number of temporary slots stay
pub record SameMachine (old new : StateValue) : Type 0 where
  pub allocatable : new.allocatable ≡ old.allocatable
  pub fixed_stack : new.fixed_stack ≡ old.fixed_stack
  pub dedicated_scratch : new.dedicated_scratch ≡ old.dedicated_scratch
  pub sizes : new.slots.sizes ≡ old.slots.sizes
  pub vregs : length new.slots.vreg_spillslots ≡ length old.slots.vreg_spillslots
  pub num_temp_slots : new.slots.num_temp_slots ≡ old.slots.num_temp_slots

-- The outcome of a step: its result and the next state, or, if a register is missing, neither.
pub data Outcome (Given : Type 0) : Type 0 where
  next : Given → StateValue → Outcome Given
  no_register : Outcome Given

-- the steps before the one at an index are done, and that step lacks a register
pub record StopsAt {Given : Type 0} (count : ℕ) (Done : ℕ → Given → StateValue → Type 0) (Stops : ℕ → Given → StateValue → Type 0) : Type 0 where
  pub index : ℕ
  pub given : Given
  pub middle : StateValue
  pub inside : index < count
  pub done : Done index given middle
  pub stops : Stops index given middle

-- a number of steps, one after another: all are done, or one of them lacks a register
abbrev pub InTurn : {Given : Type 0} → ℕ → (ℕ → Given → StateValue → Type 0) → (ℕ → Given → StateValue → Type 0) → Outcome Given → Type 0
InTurn count Done Stops (next given new) = Done count given new
InTurn count Done Stops no_register = StopsAt count Done Stops

-- at most the order in which registers were used changes
abbrev pub SameButOrder : StateValue → StateValue → Type 0
SameButOrder old new = new ≡ record old { lrus = new.lrus }

-- a move at a point
abbrev pub a_move : ℕ → Place → Place → ℕ × MoveValue
a_move point from to = (point, record { from = from; to = to })

-- a stack place
abbrev pub is_stack_in : StateValue → Place → Bool
is_stack_in t p = is_on_stack t.fixed_stack p

-- a register that may hold values of a class
pub record MayHold (t : StateValue) (class : RegClass) (r : Register) : Type 0 where
  pub of_class : r.class ≡ class
  pub small : r.number < 64
  pub allocatable : has_register t.allocatable r ≡ true

-- an allocatable register is emptied: its vreg's current location becomes its slot, and the vreg is reloaded from there
-- at the point
pub data EvictsVReg (point : ℕ) (r : Register) (old new : StateValue) : Type 0 where
  none_held : vreg_of_preg old.places r ≡ None → new ≡ old → EvictsVReg point r old new
  moved : (v : VirtualRegister) (s : Place) → r.number < 64 → vreg_of_preg old.places r ≡ Some v → GetsSpillSlot old.slots new.slots v s →
      SetsAlloc old.places new.places v s
      → new.edits ≡ old.edits ++ a_move point s (InRegister r) ∷ [] → SameMachine old new → new.lrus ≡ old.lrus → EvictsVReg point r old new

-- emptying an allocatable register never fails: it takes no other register
abbrev pub EvictVReg : ℕ → Register → StateValue → Outcome (Unit {0}) → Type 0
EvictVReg point r old (next x new) = EvictsVReg point r old new
EvictVReg point r old no_register = ⊥

-- the scratch register for the stack-to-stack moves of a class at an instruction
pub data AllocsScratchReg (point : ℕ) (class : RegClass) (t u : InstRegs) (by : Register) (old new : StateValue) : Type 0 where
  dedicated_scratch : slice_index_or old.dedicated_scratch (class_code class) None ≡ Some by → u ≡ t → new ≡ old → AllocsScratchReg point class t u by old new
  had : slice_index_or old.dedicated_scratch (class_code class) None ≡ None → slice_index_or t.scratch (class_code class) None ≡ Some by → u ≡ t → new ≡ old →
      AllocsScratchReg point class t u by old new
  found : slice_index_or old.dedicated_scratch (class_code class) None ≡ None → slice_index_or t.scratch (class_code class) None ≡ None → MayHold old class by
      → has_register t.early by ≡ true → has_register t.late by ≡ true
      → ((q : Register) → has_register u.early q ≡ not (is_register by q) && has_register t.early q) →
      ((q : Register) → has_register u.late q ≡ not (is_register by q) && has_register t.late q)
      → u.scratch ≡ slice_set t.scratch (class_code class) (Some by) → EvictsVReg point by old new → AllocsScratchReg point class t u by old new

-- no register of a class is free at both positions
abbrev pub NoneIsAvailable : RegClass → InstRegs → StateValue → Type 0
NoneIsAvailable class t old = (r : Register) → MayHold old class r → is_free_throughout t r ≡ true → ⊥

-- no register is reserved for moves of a class or was taken for them, and none is free
pub record LacksScratchReg (class : RegClass) (t : InstRegs) (old : StateValue) : Type 0 where
  pub none_kept : slice_index_or old.dedicated_scratch (class_code class) None ≡ None
  pub none_taken : slice_index_or t.scratch (class_code class) None ≡ None
  pub none_free : NoneIsAvailable class t old

-- a scratch register for stack-to-stack moves of a class is found, or none is free
abbrev pub AllocScratchReg : ℕ → RegClass → InstRegs → StateValue → Outcome (Register × InstRegs) → Type 0
AllocScratchReg point class t old (next (by, u) new) = AllocsScratchReg point class t u by old new
AllocScratchReg point class t old no_register = LacksScratchReg class t old

-- one more move, listed before all others, through a register if both ends are stack places
pub data AddMove (point : ℕ) (class : RegClass) (from to : Place) (t : InstRegs) (old : StateValue) : Outcome InstRegs → Type 0 where
  direct : {u : InstRegs} {new : StateValue} → (is_stack_in old from && is_stack_in old to) ≡ false → u ≡ t →
      new ≡ record old { edits = old.edits ++ a_move point from to ∷ [] } → AddMove point class from to t old (next u new)
  through : {u : InstRegs} {new : StateValue} (by : Register) (m : StateValue) → (is_stack_in old from && is_stack_in old to) ≡ true →
      AllocsScratchReg point class t u by old m →
      new ≡ record m { edits = m.edits ++ a_move point (InRegister by) to ∷ a_move point from (InRegister by) ∷ [] }
      → AddMove point class from to t old (next u new)
  no_scratch : (is_stack_in old from && is_stack_in old to) ≡ true → LacksScratchReg class t old → AddMove point class from to t old no_register

-- the case of `AddMove` with a next state
abbrev pub AddsMove : ℕ → RegClass → Place → Place → InstRegs → InstRegs → StateValue → StateValue → Type 0
AddsMove point class from to t u old new = AddMove point class from to t old (next u new)

-- a register or fixed stack slot is emptied
pub data EvictPReg (point : ℕ) (r : Register) (t : InstRegs) (old : StateValue) : Outcome InstRegs → Type 0 where
  empty : {u : InstRegs} {new : StateValue} → vreg_of_preg old.places r ≡ None → u ≡ t → new ≡ old → EvictPReg point r t old (next u new)
  cleared : {o : Outcome InstRegs} (v : VirtualRegister) (s : Place) (m : StateValue) → r.number < 64 → vreg_of_preg old.places r ≡ Some v →
      GetsSpillSlot old.slots m.slots v s → SetsAlloc old.places m.places v s → m.edits ≡ old.edits → SameMachine old m
      → m.lrus ≡ old.lrus → AddMove point v.class s (InRegister r) t m o → EvictPReg point r t old o

-- the case of `EvictPReg` with a next state
abbrev pub EvictsPReg : ℕ → Register → InstRegs → InstRegs → StateValue → StateValue → Type 0
EvictsPReg point r t u old new = EvictPReg point r t old (next u new)

-- a register or fixed stack slot is emptied of all vregs but that of one number
pub data EvictOtherVRegs (point : ℕ) (r : Register) (v : VirtualRegister) (t : InstRegs) (old : StateValue) : Outcome InstRegs → Type 0 where
  own : {u : InstRegs} {new : StateValue} (w : VirtualRegister) → vreg_of_preg old.places r ≡ Some w → w.number ≡ v.number → u ≡ t → new ≡ old →
      EvictOtherVRegs point r v t old (next u new)
  others : {o : Outcome InstRegs} → ((w : VirtualRegister) → vreg_of_preg old.places r ≡ Some w → w.number ≢ v.number) → EvictPReg point r t old o
      → EvictOtherVRegs point r v t old o

-- the case of `EvictOtherVRegs` with a next state
abbrev pub EvictsOtherVRegs : ℕ → Register → VirtualRegister → InstRegs → InstRegs → StateValue → StateValue → Type 0
EvictsOtherVRegs point r v t u old new = EvictOtherVRegs point r v t old (next u new)

-- a place meets the requirement
unfoldable pub MeetsRequirement : StateValue → Requirement → Place → Type 0
MeetsRequirement t AnyPlace p = p ≢ NoPlace
MeetsRequirement t AnyReg p = (r : Register) × (p ≡ InRegister r) × (is_stack_in t p ≡ false)
MeetsRequirement t OnStack p = is_stack_in t p ≡ true
MeetsRequirement t (InPReg r) p = p ≡ InRegister r

-- The place of an operand, before it is claimed: its vreg's current location; or the register that it requires; or its
-- slot; or the one chosen of the free registers, where any register will do only if its vreg is in none.
pub data SelectsPlace (inst_regs : InstRegs) (o : OperandRequest) (p : Place) (old new : StateValue) : Type 0 where
  stays : alloc_of old.places o.vreg.number ≡ p → MeetsRequirement old o.requirement p → new ≡ old → SelectsPlace inst_regs o p old new
  fixed : (r : Register) → o.requirement ≡ InPReg r → p ≡ InRegister r → new ≡ old → SelectsPlace inst_regs o p old new
  slot : (o.requirement ≡ AnyPlace) ⊎ (o.requirement ≡ OnStack) → GetsSpillSlot old.slots new.slots o.vreg p → new.places ≡ old.places →
      new.edits ≡ old.edits → SameMachine old new → new.lrus ≡ old.lrus → SelectsPlace inst_regs o p old new
  free : (r : Register) → (o.requirement ≡ AnyPlace) ⊎ (o.requirement ≡ AnyReg) →
      (o.requirement ≡ AnyReg → MeetsRequirement old AnyReg (alloc_of old.places o.vreg.number) → ⊥) → MayHold old o.vreg.class r →
      IsAvailableAt inst_regs o.positions r → chosen (is_available_at inst_regs o.positions) (order_of old o.vreg.class) ≡ Some r → p ≡ InRegister r →
      new ≡ old → SelectsPlace inst_regs o p old new

-- the operand has a place, or none: any register is required, and none is free
abbrev pub SelectPlace : InstRegs → OperandRequest → StateValue → Outcome Place → Type 0
SelectPlace t o old (next p new) = SelectsPlace t o p old new
SelectPlace t o old no_register = (o.requirement ≡ AnyReg) × NoneIsAvailable o.vreg.class t old

-- how many registers of a class are still reserved for a stack-to-stack move: none once one was taken for such moves
abbrev pub scratch_reserve_left : PRegSet → List (Option Register) → InstRegs → RegClass → ℕ
scratch_reserve_left stack kept inst_regs class = if needs_scratch_reserve stack kept class && is_none
    (slice_index_or inst_regs.scratch (class_code class) None) then 1 else 0

-- if a register that is free at both positions is taken, enough are left for the operands that require any register and
-- for a stack-to-stack move
abbrev pub IsAffordable : InstRegs → StateValue → Register → Type 0
IsAffordable inst_regs t r = is_free t.allocatable inst_regs r ≡ true →
    awaited_of inst_regs r.class + scratch_reserve_left t.fixed_stack t.dedicated_scratch inst_regs r.class + 1 ≤ free_count t.allocatable inst_regs r.class

-- how many operands of each class still need a register, once one of them under this requirement is placed
abbrev pub awaited_less : Requirement → RegClass → List ℕ → List ℕ
awaited_less AnyPlace class awaited = awaited
awaited_less AnyReg class awaited = slice_set awaited (class_code class) (slice_index awaited (class_code class) - 1)
awaited_less OnStack class awaited = awaited
awaited_less (InPReg r) class awaited = awaited

-- a place is claimed: a register is emptied of other vregs, and is held
pub data ClaimsPlace (point : ℕ) (o : OperandRequest) (p : Place) (t u : InstRegs) (old new : StateValue) : Type 0 where
  in_slot : (k : ℕ) → p ≡ InSlot k → SameAvailable t u → new ≡ old → ClaimsPlace point o p t u old new
  in_register : (r : Register) (m : InstRegs) → p ≡ InRegister r → EvictsOtherVRegs point r o.vreg t m old new → RemovesAvailable m u r o.positions
      → ClaimsPlace point o p t u old new

-- a register becomes the most recently used of its class
pub record UsesReg (r : Register) (old new : StateValue) : Type 0 where
  pub rest : SameButOrder old new
  pub newest : order_of new r.class ≡ r ∷ filter (λ q. not (is_register r q)) (order_of old r.class)
  pub others : (class : RegClass) → class ≢ r.class → order_of new class ≡ order_of old class

-- the place of an operand that requires any register or any place becomes the most recently used of its class, if it is
-- an allocatable register
pub data UsesPlace (w : Requirement) (p : Place) (old new : StateValue) : Type 0 where
  used : (r : Register) → (w ≡ AnyPlace) ⊎ (w ≡ AnyReg) → p ≡ InRegister r → has_register old.allocatable r ≡ true → UsesReg r old new → UsesPlace w p old new
  not_used : ((r : Register) → (w ≡ AnyPlace) ⊎ (w ≡ AnyReg) → p ≡ InRegister r → has_register old.allocatable r ≡ false) → new ≡ old →
      UsesPlace w p old new

-- a place is claimed and used
pub record TakesPlace (point : ℕ) (o : OperandRequest) (p : Place) (t u : InstRegs) (old new : StateValue) : Type 0 where
  pub claimed : StateValue
  pub occupies : ClaimsPlace point o p t u old claimed
  pub uses : UsesPlace o.requirement p claimed new

-- a place is claimed and used, or its register can't be emptied
abbrev pub TakePlace : ℕ → OperandRequest → Place → InstRegs → StateValue → Outcome InstRegs → Type 0
TakePlace point o p t old (next u new) = TakesPlace point o p t u old new
TakePlace point o p t old no_register = (r : Register) × (p ≡ InRegister r) × EvictOtherVRegs point r o.vreg t old no_register

-- an operand gets a place
pub record AllocsOperand (point : ℕ) (o : OperandRequest) (p : Place) (t u : InstRegs) (old new : StateValue) : Type 0 where
  pub middle : StateValue
  pub picks : SelectsPlace t o p old middle
  pub takes : TakesPlace point o p t u middle new
  pub affordable : o.requirement ≡ AnyPlace → (r : Register) → p ≡ InRegister r → IsAffordable t old r
  pub expected_in : o.is_def ≡ true → o.requirement ≡ AnyPlace → (r : Register) → p ≡ InRegister r → (q : Register)
      × (alloc_of old.places o.vreg.number ≡ InRegister q)

-- no place is found for it, or the place can't be claimed
pub data LacksPlace (point : ℕ) (o : OperandRequest) (t : InstRegs) (old : StateValue) : Type 0 where
  in_pick : SelectPlace t o old no_register → LacksPlace point o t old
  in_clear : (p : Place) (m : StateValue) → SelectsPlace t o p old m → TakePlace point o p t m no_register → LacksPlace point o t old

-- an operand gets a place, or no register is found for it
abbrev pub AllocOperand : ℕ → OperandRequest → InstRegs → StateValue → Outcome (Place × InstRegs) → Type 0
AllocOperand point o t old (next (p, u) new) = AllocsOperand point o p t u old new
AllocOperand point o t old no_register = LacksPlace point o t old

-- a move, on the condition `is_made`
pub data AddMoveIf (point : ℕ) (class : RegClass) (is_made : Bool) (from to : Place) (t : InstRegs) (old : StateValue) : Outcome InstRegs → Type 0 where
  sent : {o : Outcome InstRegs} → is_made ≡ true → AddMove point class from to t old o → AddMoveIf point class is_made from to t old o
  unsent : {u : InstRegs} {new : StateValue} → is_made ≡ false → u ≡ t → new ≡ old → AddMoveIf point class is_made from to t old (next u new)

-- the case of `AddMoveIf` with a next state
abbrev pub AddsMoveIf : ℕ → RegClass → Bool → Place → Place → InstRegs → InstRegs → StateValue → StateValue → Type 0
AddsMoveIf point class is_made from to t u old new = AddMoveIf point class is_made from to t old (next u new)

-- whether a place isn't none, and differs from another one
abbrev pub is_another : Place → Place → Bool
is_another p q = not (is_place p NoPlace) && not (is_place p q)

-- the definition of a vreg in a place: the vreg leaves the tables, and is moved to where it is expected and to its
-- slot; an instruction that ends its block adds no move
pub record FreesAlloc (point : ℕ) (v : VirtualRegister) (ends_block : Bool) (p : Place) (t u : InstRegs) (old new : StateValue) : Type 0 where
  pub left : StateValue
  pub inst_regs : InstRegs
  pub middle : StateValue
  pub sets_alloc : SetsAlloc old.places left.places v NoPlace
  pub slots : left.slots ≡ old.slots
  pub edits : left.edits ≡ old.edits
  pub machine : SameMachine old left
  pub lrus : left.lrus ≡ old.lrus
  pub expected : AddsMoveIf point v.class (not ends_block && is_another (alloc_of old.places v.number) p) p (alloc_of old.places v.number) t inst_regs left middle
  pub stored : (let s : Place = slot_name old.slots v.number in AddsMoveIf point v.class
      (not ends_block && (is_another s p && not (is_place s (alloc_of old.places v.number)))) p s inst_regs u middle new)

-- a move of the definition can't be made: to where its vreg is expected, or then to its slot
pub data DefIsNotFreed (point : ℕ) (v : VirtualRegister) (ends_block : Bool) (p : Place) (t : InstRegs) (old : StateValue) : Type 0 where
  to_expected : (left : StateValue) → SetsAlloc old.places left.places v NoPlace → left.slots ≡ old.slots → left.edits ≡ old.edits → SameMachine old left
      → AddMoveIf point v.class (not ends_block && is_another (alloc_of old.places v.number) p) p (alloc_of old.places v.number) t left no_register
      → DefIsNotFreed point v ends_block p t old
  to_slot : (left middle : StateValue) (inst_regs : InstRegs) → SetsAlloc old.places left.places v NoPlace → left.slots ≡ old.slots →
      left.edits ≡ old.edits → SameMachine old left
      → AddsMoveIf point v.class (not ends_block && is_another (alloc_of old.places v.number) p) p (alloc_of old.places v.number) t inst_regs left middle
      → AddMoveIf point v.class (not ends_block && (is_another (slot_name old.slots v.number) p
      && not (is_place (slot_name old.slots v.number) (alloc_of old.places v.number)))) p (slot_name old.slots v.number) inst_regs middle no_register
      → DefIsNotFreed point v ends_block p t old

-- a definition ends its vreg's location and is moved to it, or its moves lack a register
abbrev pub FreeAlloc : ℕ → VirtualRegister → Bool → Place → InstRegs → StateValue → Outcome InstRegs → Type 0
FreeAlloc point v ends_block p t old (next u new) = FreesAlloc point v ends_block p t u old new
FreeAlloc point v ends_block p t old no_register = DefIsNotFreed point v ends_block p t old

-- the use of a vreg in a place, which becomes its current location if it had none
pub data LocatesUse (v : VirtualRegister) (p : Place) (old new : StateValue) : Type 0 where
  stays : alloc_of old.places v.number ≢ NoPlace → new ≡ old → LocatesUse v p old new
  located : alloc_of old.places v.number ≡ NoPlace → SetsAlloc old.places new.places v p → new.slots ≡ old.slots → new.edits ≡ old.edits → SameMachine old new →
      new.lrus ≡ old.lrus → LocatesUse v p old new

-- an operand is allocated
pub record AllocsDefOp (point : ℕ) (o : OperandRequest) (ends_block : Bool) (p : Place) (t u : InstRegs) (old new : StateValue) : Type 0 where
  pub inst_regs : InstRegs
  pub middle : StateValue
  pub gets : AllocsOperand point o p t inst_regs old middle
  pub defines : FreesAlloc point o.vreg ends_block p inst_regs u middle new
  pub awaited : u.awaited ≡ awaited_less o.requirement o.vreg.class t.awaited

-- a use gets its place, which becomes its vreg's location if the vreg had none
pub record AllocsUse (point : ℕ) (o : OperandRequest) (p : Place) (t u : InstRegs) (old new : StateValue) : Type 0 where
  pub middle : StateValue
  pub gets : AllocsOperand point o p t u old middle
  pub uses : LocatesUse o.vreg p middle new
  pub awaited : u.awaited ≡ awaited_less o.requirement o.vreg.class t.awaited

-- a definition gets no place, or can't be moved from there
pub data DefIsNotAllocated (point : ℕ) (o : OperandRequest) (ends_block : Bool) (t : InstRegs) (old : StateValue) : Type 0 where
  in_get : AllocOperand point o t old no_register → DefIsNotAllocated point o ends_block t old
  in_define : (p : Place) (inst_regs : InstRegs) (middle : StateValue) → AllocsOperand point o p t inst_regs old middle →
      FreeAlloc point o.vreg ends_block p inst_regs middle no_register → DefIsNotAllocated point o ends_block t old

-- a definition is allocated, or lacks a register for its place or its moves
abbrev pub AllocDefOp : ℕ → OperandRequest → Bool → InstRegs → StateValue → Outcome (Place × InstRegs) → Type 0
AllocDefOp point o ends_block t old (next (p, u) new) = AllocsDefOp point o ends_block p t u old new
AllocDefOp point o ends_block t old no_register = DefIsNotAllocated point o ends_block t old

-- a use is allocated, or lacks a register for its place
abbrev pub AllocUse : ℕ → OperandRequest → InstRegs → StateValue → Outcome (Place × InstRegs) → Type 0
AllocUse point o t old (next (p, u) new) = AllocsUse point o p t u old new
AllocUse point o t old no_register = AllocOperand point o t old no_register

-- each operand that reads or defines names a vreg in the tables
abbrev pub InTables : List OperandValue → StateValue → Type 0
InTables operands t = (k : ℕ) → k < length operands → is_fixed_nonallocatable (op_at operands k) ≡ false →
    (op_at operands k).vreg.number < length t.places.vreg_allocs

-- the requirement of a constraint that isn't a reuse
abbrev pub requirement_of : OperandConstraint → Requirement
requirement_of Any = AnyPlace
requirement_of Reg = AnyReg
requirement_of Stack = OnStack
requirement_of (FixedReg r) = InPReg r
requirement_of (Reuse n) = AnyReg
requirement_of (Limit n) = AnyReg

-- the requirement of a reuse: that of the operand that it names
abbrev pub reuse_requirement_of : OperandConstraint → Requirement
reuse_requirement_of Any = AnyReg
reuse_requirement_of Reg = AnyReg
reuse_requirement_of Stack = AnyReg
reuse_requirement_of (FixedReg r) = InPReg r
reuse_requirement_of (Reuse n) = AnyReg
reuse_requirement_of (Limit n) = AnyReg

-- the request for an operand; a use for which a reuse has chosen a register requires that register
abbrev pub use_request : OperandValue → Place → OperandRequest
use_request o (InRegister r) = record { vreg = o.vreg; requirement = InPReg r; positions = positions_of o; is_def = false }
use_request o NoPlace = record { vreg = o.vreg; requirement = requirement_of o.constraint; positions = positions_of o; is_def = false }
use_request o (InSlot n) = record { vreg = o.vreg; requirement = requirement_of o.constraint; positions = positions_of o; is_def = false }

-- the request for a definition that isn't a reuse
abbrev pub def_request : OperandValue → OperandRequest
def_request o = record { vreg = o.vreg; requirement = requirement_of o.constraint; positions = positions_of o; is_def = true }

-- the request for a reuse, which holds its register at both positions
abbrev pub reuse_request : OperandValue → OperandValue → OperandRequest
reuse_request o named = record { vreg = o.vreg; requirement = reuse_requirement_of named.constraint; positions = both_positions; is_def = true }

-- an operand is allocated; here holds the places of the instruction before, there after
pub data ProcessesOperand (i : ℕ) (ends_block : Bool) (operands : List OperandValue) (k : ℕ) (here there : List Place) (t u : InstRegs)
    (old new : StateValue) : Type 0 where
  a_register : (r : Register) → is_fixed_nonallocatable (op_at operands k) ≡ true → (op_at operands k).constraint ≡ FixedReg r →
      there ≡ slice_set here k (InRegister r) → u ≡ t → new ≡ old
      → ProcessesOperand i ends_block operands k here there t u old new
  a_use : (p : Place) → is_reading (op_at operands k) ≡ true → AllocsUse (after i) (use_request (op_at operands k) (slice_index_or here k NoPlace)) p t u old
      new → there ≡ slice_set here k p
      → ProcessesOperand i ends_block operands k here there t u old new
  a_def : (p : Place) → is_def (op_at operands k).kind ≡ true → ((n : ℕ) → (op_at operands k).constraint ≡ Reuse n → ⊥) →
      AllocsDefOp (after i) (def_request (op_at operands k)) ends_block p t u old new → there ≡ slice_set here k p
      → ProcessesOperand i ends_block operands k here there t u old new
  a_reuse : (n : ℕ) (p : Place) → is_def (op_at operands k).kind ≡ true → (op_at operands k).constraint ≡ Reuse n →
      AllocsDefOp (after i) (reuse_request (op_at operands k) (op_at operands n)) ends_block p t u old new
      → there ≡ slice_set (slice_set here k p) n p → ProcessesOperand i ends_block operands k here there t u old new

-- the operand k gets no place, or its moves can't be made
pub data OperandIsNotProcessed (i : ℕ) (ends_block : Bool) (operands : List OperandValue) (k : ℕ) (here : List Place) (t : InstRegs) (old : StateValue) :
    Type 0 where
  at_use : is_reading (op_at operands k) ≡ true →
      AllocUse (after i) (use_request (op_at operands k) (slice_index_or here k NoPlace)) t old no_register →
      OperandIsNotProcessed i ends_block operands k here t old
  at_def : is_def (op_at operands k).kind ≡ true → ((n : ℕ) → (op_at operands k).constraint ≡ Reuse n → ⊥) →
      AllocDefOp (after i) (def_request (op_at operands k)) ends_block t old no_register → OperandIsNotProcessed i ends_block operands k here t old
  at_reuse : (n : ℕ) → is_def (op_at operands k).kind ≡ true → (op_at operands k).constraint ≡ Reuse n →
      AllocDefOp (after i) (reuse_request (op_at operands k) (op_at operands n)) ends_block t old no_register →
      OperandIsNotProcessed i ends_block operands k here t old

-- an operand is allocated, whatever its constraint, or a register is missing
abbrev pub ProcessOperand : ℕ → Bool → List OperandValue → ℕ → List Place → InstRegs → StateValue → Outcome (List Place × InstRegs) → Type 0
ProcessOperand i ends_block operands k here t old (next (there, u) new) = ProcessesOperand i ends_block operands k here there t u old new
ProcessOperand i ends_block operands k here t old no_register = OperandIsNotProcessed i ends_block operands k here t old

-- the operands of one position among the first k are placed, one after another
pub data ProcessesOperandsAt (i : ℕ) (ends_block late : Bool) (operands : List OperandValue) (here : List Place) (t : InstRegs) (old : StateValue) : ℕ →
    List Place → InstRegs → StateValue → Type 0 where
  none_placed : ProcessesOperandsAt i ends_block late operands here t old 0 here t old
  of_other : (k : ℕ) (there : List Place) (u : InstRegs) (m : StateValue) → ProcessesOperandsAt i ends_block late operands here t old k there u m →
      (is_late (op_at operands k).position ≡ late → ⊥) → ProcessesOperandsAt i ends_block late operands here t old (k + 1) there u m
  one_placed : (k : ℕ) (there next : List Place) (u w : InstRegs) (m n : StateValue) → ProcessesOperandsAt i ends_block late operands here t old k there u m →
      is_late (op_at operands k).position ≡ late
      → ProcessesOperand i ends_block operands k there next u w m n → ProcessesOperandsAt i ends_block late operands here t old (k + 1) next w n

-- all operands of one position are allocated in operand order, or one of them lacks a register
abbrev pub ProcessOperandsAt : ℕ → Bool → Bool → List OperandValue → List Place → InstRegs → StateValue → Outcome (List Place × InstRegs) → Type 0
ProcessOperandsAt i ends_block late operands here t old = InTurn (length operands) (λ k g m. ProcessesOperandsAt i ends_block late operands here t old k g.0 g.1 m)
    (λ k g m. (is_late (op_at operands k).position ≡ late) × ProcessOperand i ends_block operands k g.0 g.1 m no_register)

-- the uses among the first k operands are moved to their places from their vregs' current locations
pub data MovesUses (point : ℕ) (operands : List OperandValue) (here : List Place) (t : InstRegs) (old : StateValue) : ℕ → InstRegs → StateValue → Type 0 where
  none_moved : MovesUses point operands here t old 0 t old
  not_moved : (k : ℕ) (u : InstRegs) (m : StateValue) → MovesUses point operands here t old k u m → is_reading (op_at operands k) ≡ false →
      MovesUses point operands here t old (k + 1) u m
  one_moved : (k : ℕ) (u w : InstRegs) (m n : StateValue) → MovesUses point operands here t old k u m → is_reading (op_at operands k) ≡ true
      → (let p : Place = slice_index_or here k NoPlace in let q : Place = alloc_of m.places (op_at operands k).vreg.number in
      AddsMoveIf point (op_at operands k).vreg.class (not (is_place q p)) q p u w m n)
      → MovesUses point operands here t old (k + 1) w n

-- the move of a use from its vreg's current location to its place
abbrev pub MoveUse : ℕ → OperandValue → Place → InstRegs → StateValue → Outcome InstRegs → Type 0
MoveUse point o p t old = (let q : Place = alloc_of old.places o.vreg.number in AddMoveIf point o.vreg.class (not (is_place q p)) q p t old)

-- all uses are moved to their places, or a move of one of them lacks a register
abbrev pub MoveUses : ℕ → List OperandValue → List Place → InstRegs → StateValue → Outcome InstRegs → Type 0
MoveUses point operands here t old = InTurn (length operands) (MovesUses point operands here t old)
    (λ k u m. (is_reading (op_at operands k) ≡ true) × MoveUse point (op_at operands k) (slice_index_or here k NoPlace) u m no_register)

-- the register that an operand claims before operands are allocated: its fixed one, unless that is nonallocatable; and
-- for a reuse that of the operand that it names, at the late position
pub data NeedsFixedReg (operands : List OperandValue) (k : ℕ) (r : Register) (p : Positions) : Type 0 where
  own : is_fixed_nonallocatable (op_at operands k) ≡ false → (op_at operands k).constraint ≡ FixedReg r → p ≡ positions_of (op_at operands k) →
      NeedsFixedReg operands k r p
  named : (n : ℕ) → (op_at operands k).constraint ≡ Reuse n → n < length operands → (op_at operands n).constraint ≡ FixedReg r →
      p ≡ record { early = false; late = true } → NeedsFixedReg operands k r p

-- whether an operand requires any register of a class, and how many do
abbrev pub needs_reg_of_class : RegClass → OperandValue → Bool
needs_reg_of_class class o = is_under_reg o.constraint && nat_eq (class_code o.vreg.class) (class_code class)

-- how many operands require any register of a class
abbrev pub needing_reg : List OperandValue → RegClass → ℕ
needing_reg operands class = count_by (needs_reg_of_class class) operands

-- an operand is fixed to the register
abbrev pub IsFixedIn : List OperandValue → Register → Type 0
IsFixedIn operands r = (k : ℕ) × (k < length operands) × ((op_at operands k).constraint ≡ FixedReg r)

-- the registers that operands claim before they are placed are held, and differ if they share a position; no table
-- changes
pub record ReservesRegs (operands : List OperandValue) (t u : InstRegs) (old : StateValue) : Type 0 where
  pub known : (k : ℕ) (r : Register) (p : Positions) → k < length operands → NeedsFixedReg operands k r p → (has_register old.allocatable r ≡ true)
      ⊎ (has_register old.fixed_stack r ≡ true)
  pub held_early : (k : ℕ) (r : Register) (p : Positions) → k < length operands → NeedsFixedReg operands k r p → p.early ≡ true → has_register u.early r ≡ false
  pub held_late : (k : ℕ) (r : Register) (p : Positions) → k < length operands → NeedsFixedReg operands k r p → p.late ≡ true → has_register u.late r ≡ false
  pub apart : (j k : ℕ) (r : Register) (p q : Positions) → j < length operands → k < length operands → NeedsFixedReg operands j r p →
      NeedsFixedReg operands k r q → ((p.early && q.early) || (p.late && q.late)) ≡ true → j ≡ k
  pub early : (r : Register) → has_register u.early r ≡ true → has_register t.early r ≡ true
  pub late : (r : Register) → has_register u.late r ≡ true → has_register t.late r ≡ true
  pub scratch : u.scratch ≡ t.scratch
  pub only : (r : Register) → is_free_throughout t r ≡ true → is_free_throughout u r ≡ false → IsFixedIn operands r
  pub awaited : t.awaited ≡ 0 ∷ 0 ∷ 0 ∷ [] → (c : RegClass) → awaited_of u c ≡ needing_reg operands c

-- an operand claims a register that isn't the machine's, or that an operand before it claims at a position of its own
pub data RegsAreNotReserved (operands : List OperandValue) (old : StateValue) : Type 0 where
  unknown : (k : ℕ) (r : Register) (p : Positions) → k < length operands → NeedsFixedReg operands k r p →
      (has_register old.allocatable r || has_register old.fixed_stack r) ≡ false → RegsAreNotReserved operands old
  shared : (j k : ℕ) (r : Register) (p q : Positions) → j < k → k < length operands → NeedsFixedReg operands j r p → NeedsFixedReg operands k r q →
      ((p.early && q.early) || (p.late && q.late)) ≡ true → RegsAreNotReserved operands old

-- the fixed registers are reserved, or two operands claim one register, or one that the machine lacks
abbrev pub ReserveRegs : List OperandValue → InstRegs → StateValue → Outcome InstRegs → Type 0
ReserveRegs operands t old (next u new) = ReservesRegs operands t u old
ReserveRegs operands t old no_register = RegsAreNotReserved operands old

-- the clobbers are held at the late position
pub record RemovesClobbers (clobbers : PRegSet) (t u : InstRegs) : Type 0 where
  pub late : (r : Register) → has_register u.late r ≡ not (has_register clobbers r) && has_register t.late r
  pub early : (r : Register) → has_register u.early r ≡ has_register t.early r
  pub scratch : u.scratch ≡ t.scratch
  pub awaited : u.awaited ≡ t.awaited

-- the order of use stays if no operand is fixed to a register
abbrev pub NoneUsed : List OperandValue → List (List Register) → List (List Register) → Type 0
NoneUsed operands old new = ((k : ℕ) (r : Register) → k < length operands → (op_at operands k).constraint ≡ FixedReg r → ⊥) → new ≡ old

-- The fixed registers of the first k operands are emptied of all vregs but each operand's own; registers that reuses
-- share with fixed uses, of all.
-- Before that, the fixed registers become the most recently used, in some order.
pub data EvictsFixed (point : ℕ) (operands : List OperandValue) (t : InstRegs) (old : StateValue) : ℕ → InstRegs → StateValue → Type 0 where
  none_cleared : (order : List (List Register)) → NoneUsed operands old.lrus order → EvictsFixed point operands t old 0 t (record old { lrus = order })
  not_fixed : (k : ℕ) (u : InstRegs) (m : StateValue) → EvictsFixed point operands t old k u m
      → ((r : Register) → (op_at operands k).constraint ≡ FixedReg r → ⊥)
      → ((n : ℕ) (r : Register) → (op_at operands k).constraint ≡ Reuse n → n < length operands → (op_at operands n).constraint ≡ FixedReg r → ⊥) →
      EvictsFixed point operands t old (k + 1) u m
  of_fixed : (k : ℕ) (r : Register) (u w : InstRegs) (m n : StateValue) → EvictsFixed point operands t old k u m → (op_at operands k).constraint ≡ FixedReg r →
      EvictsOtherVRegs point r (op_at operands k).vreg u w m n → EvictsFixed point operands t old (k + 1) w n
  of_reuse : (k j : ℕ) (r : Register) (u w : InstRegs) (m n : StateValue) → EvictsFixed point operands t old k u m → (op_at operands k).constraint ≡ Reuse j →
      j < length operands → (op_at operands j).constraint ≡ FixedReg r
      → EvictsPReg point r u w m n → EvictsFixed point operands t old (k + 1) w n

-- the fixed registers are emptied, or one of them can't be
abbrev pub EvictFixed : ℕ → List OperandValue → InstRegs → StateValue → Outcome InstRegs → Type 0
EvictFixed point operands t old = InTurn (length operands) (EvictsFixed point operands t old)
    (λ k u m. (r : Register) × EvictPReg point r u m no_register)

-- registers are emptied, one after another
pub data EvictsEach (point : ℕ) : List Register → InstRegs → StateValue → InstRegs → StateValue → Type 0 where
  none_left : (t : InstRegs) (m : StateValue) → EvictsEach point [] t m t m
  one_more : (r : Register) (rs : List Register) (t u w : InstRegs) (old m new : StateValue) → EvictsPReg point r t u old m → EvictsEach point rs u m w new →
      EvictsEach point (r ∷ rs) t old w new

-- a register of the list can't be emptied, after others were
pub record EachIsNotEvicted (point : ℕ) (t : InstRegs) (old : StateValue) : Type 0 where
  pub cleared : List Register
  pub inst_regs : InstRegs
  pub middle : StateValue
  pub register : Register
  pub clears : EvictsEach point cleared t old inst_regs middle
  pub stops : EvictPReg point register inst_regs middle no_register

-- the registers of a list are emptied, or one of them can't be
abbrev pub EvictEach : ℕ → List Register → InstRegs → StateValue → Outcome InstRegs → Type 0
EvictEach point rs t old (next u new) = EvictsEach point rs t old u new
EvictEach point rs t old no_register = EachIsNotEvicted point t old

-- the instruction is its block's last; no move may follow it
abbrev pub ends_block : InstValue → Bool
ends_block inst = inst.is_branch || inst.is_ret

-- all registers of the machine are free, none is taken for moves yet, and no operand is counted
pub record IsFresh (inst_regs : InstRegs) (t : StateValue) : Type 0 where
  pub early : (r : Register) → has_register inst_regs.early r ≡ (has_register t.allocatable r || has_register t.fixed_stack r)
  pub late : (r : Register) → has_register inst_regs.late r ≡ (has_register t.allocatable r || has_register t.fixed_stack r)
  pub scratch : inst_regs.scratch ≡ None ∷ None ∷ None ∷ []
  pub awaited : inst_regs.awaited ≡ 0 ∷ 0 ∷ 0 ∷ []

-- an instruction's fixed registers and clobbers are taken and emptied
pub record PreparesRegs (i : ℕ) (operands : List OperandValue) (clobbers : PRegSet) (t quiet : InstRegs) (old new : StateValue) : Type 0 where
  pub reserved : InstRegs
  pub held : InstRegs
  pub cleared : InstRegs
  pub middle : StateValue
  pub reserves : ReservesRegs operands t reserved old
  pub holds : RemovesClobbers clobbers reserved held
  pub fixed : EvictsFixed (after i) operands held old (length operands) cleared middle
  pub emptied : EvictsEach (after i) (registers_of clobbers) cleared middle quiet new
  pub awaited : (c : RegClass) → awaited_of quiet c ≡ needing_reg operands c

-- the registers can't be taken, or can't be emptied
pub data RegsAreNotPrepared (i : ℕ) (operands : List OperandValue) (clobbers : PRegSet) (t : InstRegs) (old : StateValue) : Type 0 where
  in_reserve : ReserveRegs operands t old no_register → RegsAreNotPrepared i operands clobbers t old
  in_fixed : (reserved held : InstRegs) → ReservesRegs operands t reserved old → RemovesClobbers clobbers reserved held →
      EvictFixed (after i) operands held old no_register → RegsAreNotPrepared i operands clobbers t old
  in_clobbers : (reserved held cleared : InstRegs) (m : StateValue) → ReservesRegs operands t reserved old → RemovesClobbers clobbers reserved held
      → EvictsFixed (after i) operands held old (length operands) cleared m → EvictEach (after i) (registers_of clobbers) cleared m no_register →
      RegsAreNotPrepared i operands clobbers t old

-- fixed registers and clobbers are reserved and emptied, or a register is missing
abbrev pub PrepareRegs : ℕ → List OperandValue → PRegSet → InstRegs → StateValue → Outcome InstRegs → Type 0
PrepareRegs i operands clobbers t old (next quiet new) = PreparesRegs i operands clobbers t quiet old new
PrepareRegs i operands clobbers t old no_register = RegsAreNotPrepared i operands clobbers t old

-- An instruction is allocated: its registers are prepared; late operands are allocated, then early ones; then uses are
-- moved. No move is listed after an instruction that ends its block.
pub record AllocsInstOf (i : ℕ) (operands : List OperandValue) (clobbers : PRegSet) (ends_block : Bool) (blank places : List Place) (old new : StateValue) :
    Type 0 where
  pub began : InstRegs
  pub quiet : InstRegs
  pub late : InstRegs
  pub early : InstRegs
  pub ended : InstRegs
  pub after_clobbers : StateValue
  pub after_late : StateValue
  pub after_early : StateValue
  pub half : List Place
  pub long : length blank ≡ length operands
  pub no_places : (k : ℕ) → slice_index_or blank k NoPlace ≡ NoPlace
  pub fresh : IsFresh began old
  pub prepares : PreparesRegs i operands clobbers began quiet old after_clobbers
  pub lates : ProcessesOperandsAt i ends_block true operands blank quiet after_clobbers (length operands) half late after_late
  pub earlies : ProcessesOperandsAt i ends_block false operands half late after_late (length operands) places early after_early
  pub moves : MovesUses (before i) operands places early after_early (length operands) ended new

-- an instruction is allocated, given by its operands, its clobbers and whether it ends its block
abbrev pub AllocsInst : ℕ → InstValue → List Place → List Place → StateValue → StateValue → Type 0
AllocsInst i inst blank places old new = AllocsInstOf i inst.operands inst.clobbers (ends_block inst) blank places old new

-- an instruction runs out of registers at one of its stages
pub data InstIsNotAllocated (i : ℕ) (operands : List OperandValue) (clobbers : PRegSet) (ends_block : Bool) (blank : List Place) (t : InstRegs)
    (old : StateValue) : Type 0 where
  in_prepare : PrepareRegs i operands clobbers t old no_register → InstIsNotAllocated i operands clobbers ends_block blank t old
  in_lates : (quiet : InstRegs) (m : StateValue) → PreparesRegs i operands clobbers t quiet old m →
      ProcessOperandsAt i ends_block true operands blank quiet m no_register → InstIsNotAllocated i operands clobbers ends_block blank t old
  in_earlies : (quiet late : InstRegs) (m n : StateValue) (half : List Place) → PreparesRegs i operands clobbers t quiet old m →
      ProcessesOperandsAt i ends_block true operands blank quiet m (length operands) half late n
      → ProcessOperandsAt i ends_block false operands half late n no_register → InstIsNotAllocated i operands clobbers ends_block blank t old
  in_moves : (quiet late early : InstRegs) (m n o : StateValue) (half places : List Place) → PreparesRegs i operands clobbers t quiet old m →
      ProcessesOperandsAt i ends_block true operands blank quiet m (length operands) half late n
      → ProcessesOperandsAt i ends_block false operands half late n (length operands) places early o
      → MoveUses (before i) operands places early o no_register → InstIsNotAllocated i operands clobbers ends_block blank t old

-- an instruction is allocated, or one of its stages runs out of registers
abbrev pub AllocInst : ℕ → List OperandValue → PRegSet → Bool → List Place → InstRegs → StateValue → Outcome (List Place × InstRegs) → Type 0
AllocInst i operands clobbers ends_block blank t old (next (places, u) new) =
    (a : AllocsInstOf i operands clobbers ends_block blank places old new) × (a.ended ≡ u)
AllocInst i operands clobbers ends_block blank t old no_register = InstIsNotAllocated i operands clobbers ends_block blank t old
