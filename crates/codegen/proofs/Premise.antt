-- The proofs' assumptions on the source, its allocation and the emitted code.
use Rattle.std.specs.Prelude.{ℕ, ◌≡◌, ◌+◌, ◌<◌, ◌≤◌, ◌⊎◌, false, true, nat_eq, List, [], ◌∷◌, map, length, slice_index, All}
use Rattle.regalloc2_names.specs.declared.RegClass.TheVariants.{Int}
use Rattle.regalloc2_names.specs.Register.{Register, VirtualRegister, has_register}
use Rattle.regalloc2_names.specs.Place.{Place, NoPlace, InRegister, InSlot}
use Rattle.regalloc2_function.specs.FunctionValue.{FunctionValue, block_at, inst_at}
use Rattle.regalloc2_function.specs.OutputValue.{OutputValue, allocs_of, place_at}
use Rattle.codegen_operation.specs.Operands.{argument_registers, is_lost_in, operands_of, part_register}
use Rattle.codegen_machine.specs.Seen.{Operations}
use Rattle.codegen_operation.specs.declared.operation.Operation.{Operation}
use Rattle.codegen_operation.specs.declared.operation.Operation.TheVariants.{Argument as TakeArgument, Constant as TakeConstant, Copy, Compute as Computation}
use Rattle.codegen_operation.specs.declared.operation.Operation.TheVariants.{Shift as Shifting, Divide as Dividing, Compare as Comparison, Select}
use Rattle.codegen_operation.specs.declared.operation.Operation.TheVariants.{Jump as GoTo, BranchIf, BranchIfHolds, Load as Loading, Store as Storing}
use Rattle.codegen_operation.specs.declared.operation.Operation.TheVariants.{Call as Calling, Return as GiveBack}
use Rattle.codegen_operation.specs.declared.operation.Count.{Count}
use Rattle.codegen_operation.specs.declared.operation.Count.TheVariants.{VReg as CountIn, Number as CountOf}
use Rattle.codegen_operation.specs.declared.operation.Right.{Right}
use Rattle.codegen_operation.specs.declared.operation.Right.TheVariants.{VReg, Number as Given}
use Rattle.codegen_machine.specs.Machine.{CodeValue, is_general}
use Rattle.codegen_emit.specs.declared.placement.MachinePlace.{MachinePlace}
use Rattle.codegen_emit.specs.declared.placement.MachinePlace.TheVariants.{Register as AtRegister, Slot as AtSlot}
use Rattle.codegen_emit.specs.Pinned.{is_allocated, slot_place}
use Rattle.codegen_emit.specs.Emitted.{register_of, operation_at, stack_arguments, blocks_code, block_start, resolved}

-- a register that the allocator allocates
abbrev pub IsGeneral : Place → Type 0
IsGeneral NoPlace = ⊥
IsGeneral (InRegister r) = (r.class ≡ Int) × (is_allocated r.number ≡ true)
IsGeneral (InSlot n) = ⊥

-- a place of a machine whose frame has `slots` slots
abbrev pub IsWithin : ℕ → MachinePlace → Type 0
IsWithin slots (AtRegister r) = is_general r ≡ true
IsWithin slots (AtSlot k) = k < slots

-- a register that the allocator allocates, or a slot that the machine has a place for
abbrev pub IsHere : ℕ → Place → Type 0
IsHere slots NoPlace = ⊥
IsHere slots (InRegister r) = (r.class ≡ Int) × (is_allocated r.number ≡ true)
IsHere slots (InSlot n) = IsWithin slots (slot_place n)

-- a move that one instruction makes
abbrev pub CanMove : ℕ → Place → Place → Type 0
CanMove slots from NoPlace = ⊥
CanMove slots from (InRegister r) = ((r.class ≡ Int) × (is_allocated r.number ≡ true)) × IsHere slots from
CanMove slots from (InSlot n) = IsWithin slots (slot_place n) × IsGeneral from

-- the place of a second number; a constant has none
abbrev pub IsRightHere : ℕ → Right → Place → Type 0
IsRightHere slots (VReg v) p = IsHere slots p
IsRightHere slots (Given n) p = Unit {0}

-- the place of a shift count is register 1, unless it is a constant
abbrev pub IsCountHere : Count → Place → Type 0
IsCountHere (CountIn v) p = IsGeneral p × (register_of p ≡ 1)
IsCountHere (CountOf n) p = Unit {0}

-- an operation's operands in fixed registers are read and written: only operands of the greatest virtual register aren't
abbrev pub IsCountRead : Count → Type 0
IsCountRead (CountIn v) = nat_eq v.number 1073741823 ≡ false
IsCountRead (CountOf n) = Unit {0}

abbrev pub AreRead : List VirtualRegister → Type 0
AreRead [] = Unit {0}
AreRead (v ∷ vs) = (nat_eq v.number 1073741823 ≡ false) × AreRead vs

abbrev pub IsRead : Operation → Type 0
IsRead (Shifting w o to left count) = IsCountRead count
IsRead (Dividing w part signed to left right) = (nat_eq to.number 1073741823 ≡ false) × (nat_eq left.number 1073741823 ≡ false)
IsRead (Calling g to arguments) = (nat_eq to.number 1073741823 ≡ false) × AreRead arguments.items
IsRead o = Unit {0}

-- the places of a call's arguments, from that operand on, are these registers, and then any
abbrev pub ArePassed : ℕ → List Place → ℕ → List ℕ → List VirtualRegister → Type 0
ArePassed slots ps k rs [] = Unit {0}
ArePassed slots ps k [] (v ∷ vs) = IsHere slots (place_at ps k) × ArePassed slots ps (k + 1) [] vs
ArePassed slots ps k (r ∷ rs) (v ∷ vs) = (IsGeneral (place_at ps k) × (register_of (place_at ps k) ≡ r)) × ArePassed slots ps (k + 1) rs vs

-- the places of an operation's operands are such that it can be emitted
abbrev pub IsPlaced : ℕ → Operation → List Place → Type 0
IsPlaced slots (TakeArgument to k) ps = IsGeneral (place_at ps 0)
IsPlaced slots (TakeConstant to n) ps = IsGeneral (place_at ps 0)
IsPlaced slots (Copy to from) ps = IsGeneral (place_at ps 0) × IsHere slots (place_at ps 1)
IsPlaced slots (Computation w o to left right) ps = IsGeneral (place_at ps 0) × (place_at ps 0 ≡ place_at ps 1) × IsRightHere slots right (place_at ps 2)
IsPlaced slots (Shifting w o to left count) ps = IsGeneral (place_at ps 0) × (place_at ps 0 ≡ place_at ps 1) × IsCountHere count (place_at ps 2)
IsPlaced slots (Dividing w part signed to left right) ps = (IsGeneral (place_at ps 0) × (register_of (place_at ps 0) ≡ part_register part))
    × (IsGeneral (place_at ps 1) × (register_of (place_at ps 1) ≡ 0)) × IsHere slots (place_at ps 2)
IsPlaced slots (Comparison w c to left right) ps = IsGeneral (place_at ps 0) × IsGeneral (place_at ps 1) × IsRightHere slots right (place_at ps 2)
IsPlaced slots (Select to c one other) ps =
    IsGeneral (place_at ps 0) × (place_at ps 0 ≡ place_at ps 1) × IsHere slots (place_at ps 2) × IsHere slots (place_at ps 3)
IsPlaced slots (Loading bytes to address) ps = IsGeneral (place_at ps 0) × IsGeneral (place_at ps 1)
IsPlaced slots (Storing bytes address value) ps = IsGeneral (place_at ps 0) × IsGeneral (place_at ps 1)
IsPlaced slots (Calling g to arguments) ps =
    (IsGeneral (place_at ps 0) × (register_of (place_at ps 0) ≡ 0)) × ArePassed slots ps 1 argument_registers arguments.items
IsPlaced slots GoTo ps = Unit {0}
IsPlaced slots (BranchIf v) ps = IsHere slots (place_at ps 0)
IsPlaced slots (BranchIfHolds w c left right) ps = IsGeneral (place_at ps 0) × IsRightHere slots right (place_at ps 1)
IsPlaced slots (GiveBack v) ps = IsHere slots (place_at ps 0)

-- an operation other than a call that continues at the next line, and reads all its uses
abbrev pub IsPlain : Operation → Type 0
IsPlain GoTo = ⊥
IsPlain (BranchIf v) = ⊥
IsPlain (BranchIfHolds w c left right) = ⊥
IsPlain (GiveBack v) = ⊥
IsPlain (Calling g to arguments) = ⊥
IsPlain (Shifting w o to left count) = IsCountRead count
IsPlain (Dividing w part signed to left right) = (nat_eq to.number 1073741823 ≡ false) × (nat_eq left.number 1073741823 ≡ false)
IsPlain o = Unit {0}

-- a call that reads all its arguments
abbrev pub IsCall : Operation → Type 0
IsCall (Calling g to arguments) = (nat_eq to.number 1073741823 ≡ false) × AreRead arguments.items
IsCall o = ⊥

-- an operation that ends a block with `count` successors
abbrev pub IsEnd : Operation → ℕ → Type 0
IsEnd GoTo count = 0 < count
IsEnd (BranchIf v) count = 1 < count
IsEnd (BranchIfHolds w c left right) count = 1 < count
IsEnd (GiveBack v) count = Unit {0}
IsEnd o count = ⊥

-- the assumptions on the source, its allocation and the code, whose jumps to a block are resolved to its first instruction
pub record IsEmitted (f : FunctionValue) (operations : Operations) (out : OutputValue) (start : ℕ → ℕ) (code : CodeValue) : Type 0 where
  pub operands : (i : ℕ) → i < length f.insts → (inst_at f i).operands ≡ operands_of (operation_at operations i)
  pub clobbers : (i : ℕ) → i < length f.insts → (r : Register) →
      has_register (inst_at f i).clobbers r ≡ is_lost_in (operation_at operations i) r
  pub counted : length f.insts ≡ length operations.items
  pub entry : (f.entry ≡ 0) × (0 < length f.blocks)
  pub filled : (b : ℕ) → b < length f.blocks → (block_at f b).range.first < (block_at f b).range.end
  pub within : (b : ℕ) → b < length f.blocks → (block_at f b).range.end ≤ length f.insts
  pub plain : (b i : ℕ) → b < length f.blocks → (block_at f b).range.first ≤ i → i + 1 < (block_at f b).range.end →
      IsPlain (operation_at operations i) ⊎ IsCall (operation_at operations i)
  pub ends : (b i : ℕ) → b < length f.blocks → (block_at f b).range.first ≤ i → i + 1 ≡ (block_at f b).range.end →
      IsEnd (operation_at operations i) (length (block_at f b).succs)
  pub succs : (b k : ℕ) → b < length f.blocks → k < length (block_at f b).succs → slice_index (block_at f b).succs k < length f.blocks
  pub passes : (i : ℕ) → i < length f.insts → stack_arguments (operation_at operations i) ≤ code.outgoing
  pub placed : (i : ℕ) → i < length f.insts → IsPlaced code.slots (operation_at operations i) (allocs_of out i)
  pub moves : All (λ e. CanMove code.slots e.1.from e.1.to) out.edits
  pub starts : (b : ℕ) → b < length f.blocks → start b ≡ block_start operations out f b
  pub instructions : code.instructions ≡ map (resolved start) (blocks_code operations out f (length f.blocks))
