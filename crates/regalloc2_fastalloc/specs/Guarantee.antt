-- What `run` guarantees of its outputs: the main theorem's conclusion. Its terms are in regalloc2_semantics/specs,
-- in reading order: `Runs`, `Faithful`, `Values`, `Places`, `Live`, `Debug`; values of functions, machines and outputs in regalloc2_function/specs.
use Rattle.std.specs.Prelude.{ℕ, ◌≡◌, ◌<◌, ◌≤◌, ◌^◌, ◌⊎◌, List, All, IsSome, length, true, false, [], nat_eq, ◌≢◌, ◌∷◌, Contains, zip, slice_index}
use Rattle.regalloc2_names.specs.Register.{VirtualRegister, Register, has_register}
use Rattle.regalloc2_names.specs.Place.{Place, InSlot, before}
use Rattle.std.specs.List.{IsDistinct}
use Rattle.regalloc2_names.specs.declared.OperandConstraint.TheVariants.{Reg}
use Rattle.regalloc2_names.specs.declared.RegClass.{RegClass}
use Rattle.regalloc2_function.specs.FunctionValue.{FunctionValue, block_at, inst_at, op_at}
use Rattle.regalloc2_function.specs.Machine.{MachineValue, allocatable_count}
use Rattle.regalloc2_function.specs.OutputValue.{OutputValue, IsInOrder, allocs_of, place_at, is_listed_at}
use Rattle.regalloc2_semantics.specs.Runs.{Way, end_of, IsPath, IsDefinitelyAssigned, arguments_at, ToSuccessor, Location, source_before, cells_before, source_read}
use Rattle.regalloc2_semantics.specs.Faithful.{ConstraintsMet, IsStackToStack, IsFaithful}
use Rattle.regalloc2_semantics.specs.Debug.{ShowsValue, AreDebugLocations}
use Rattle.regalloc2_semantics.specs.Places.{IsValidPlace, PlacesAreValid, Owner, OfVReg, OfBranch, IsSlotOf, AreSlotsOwned, units_at_most}
use Rattle.regalloc2_semantics.specs.Values.{Meaning, SameNumbers, numbers}
use Rattle.regalloc2_semantics.specs.Live.{NamesAt, DefinesAt, IsLive}

-- The allocated program runs as the function does, along every path from the entry: at each step each use finds in its place the function's own
-- write, each place meets its constraint, and no move is stack-to-stack; and so each use reads the function's own number, whatever the instructions
-- compute, and there is one.
pub record RunsAsTheFunction (f : FunctionValue) (env : MachineValue) (out : OutputValue) : Type 0 where
  pub faithful : IsFaithful f env out
  pub reads_numbers : (meaning : Meaning) (ws : List Way) → IsPath f ws → All (All IsSome) (numbers f meaning (λ vs k o. source_read f vs o) ws).history
  pub same_numbers : SameNumbers f out

-- the edge at position k out of a location passes u to the parameter v
abbrev pub IsPassedTo : FunctionValue → Location → ℕ → VirtualRegister → VirtualRegister → Type 0
IsPassedTo f l k v u = Contains (zip (block_at f (slice_index (block_at f l.block).succs k)).params (arguments_at f l.block k)) (v, u)

-- The place of v behind the edge at position k out of a location. If the branch at the location defines v, or what the edge passes to v, that is the place of
-- the operand that does. Else it is v's slot.
pub data ArrivesAt (f : FunctionValue) (out : OutputValue) (slot : VirtualRegister → ℕ) (l : Location) (k : ℕ) (v : VirtualRegister) : Place → Type 0 where
  defined : (d : DefinesAt f v l.inst) → ArrivesAt f out slot l k v (place_at (allocs_of out l.inst) d.0)
  given : (u : VirtualRegister) → IsPassedTo f l k v u → (d : DefinesAt f u l.inst) → ArrivesAt f out slot l k v (place_at (allocs_of out l.inst) d.0)
  in_slot : (DefinesAt f v l.inst → ⊥) → ((u : VirtualRegister) → IsPassedTo f l k v u → DefinesAt f u l.inst → ⊥) →
      ArrivesAt f out slot l k v (InSlot (slot v))

-- Between blocks values are on the stack, but for what the branch between them defines: each vreg has one slot, which is that of its operands in slots;
-- on every path, behind each edge, each vreg that is live there owns its slot, and its place holds its value; so do the block's parameters. At the
-- function's entry no vreg is live.
pub record LiveInSlots (f : FunctionValue) (out : OutputValue) (owner : ℕ → Owner) : Type 0 where
  pub slot : VirtualRegister → ℕ
  pub operands : (v : VirtualRegister) (i k n : ℕ) → NamesAt f v i k → place_at (allocs_of out i) k ≡ InSlot n → slot v ≡ n
  pub live : (ws : List Way) (k : ℕ) → IsPath f (ToSuccessor k ∷ ws) → (v : VirtualRegister) → IsLive f v (end_of f (ToSuccessor k ∷ ws)) →
      (owner (slot v) ≡ OfVReg v) × ((p : Place) → ArrivesAt f out slot (end_of f ws) k v p →
      IsSome (source_before f (ToSuccessor k ∷ ws) v) × (cells_before f out (ToSuccessor k ∷ ws) p ≡ source_before f (ToSuccessor k ∷ ws) v))

-- The slot n of a branch i: it is the branch's first or second one for its class, and only moves name it, each at the
-- point before the branch.
pub record ServesBranch (out : OutputValue) (n i index : ℕ) : Type 0 where
  pub of_two : index < 2
  pub moves : All (λ e. (e.1.from ≡ InSlot n) ⊎ (e.1.to ≡ InSlot n) → e.0 ≡ before i) out.edits
  pub no_operand : All (λ p. p ≢ InSlot n) out.allocs
  pub no_location : All (λ d. d.place ≢ InSlot n) out.debug_locations

-- A function of one block, all of whose operands are under `Reg`, without clobbers, which names no more vregs of a class than
-- registers of it may be allocated.
pub record HasRegistersForAll (f : FunctionValue) (env : MachineValue) : Type 0 where
  pub one_block : length f.blocks ≡ 1
  pub under_reg : (i k : ℕ) → i < length f.insts → k < length (inst_at f i).operands → (op_at (inst_at f i).operands k).constraint ≡ Reg
  pub no_clobbers : (i : ℕ) (r : Register) → i < length f.insts → has_register (inst_at f i).clobbers r ≡ false
  pub enough : (class : RegClass) (vs : List VirtualRegister) → IsDistinct (λ v w. nat_eq v.number w.number) vs → All (λ v. (v.class ≡ class) × ((i k : ℕ) × NamesAt f v i k)) vs →
      length vs ≤ allocatable_count env class

-- The whole guarantee about an output. Only `faithful`, `live` and the last part of `labels` have a premise: that no
-- path from the entry reads or passes a vreg before writing it.
--     in_order            offsets and moves are well-ordered, and no move names a missing place
--     constraints         each operand's place meets its constraint, whether a path reaches it or not; so an operand
--                         that names a register and no vreg is in that register, which may be none of the machine's
--     proper              each other operand's place, and each end of a move, is one of the machine's or a slot below
--                         the count
--     no_stack_to_stack   no move is stack-to-stack
--     listed              each move is listed, none after the last instruction of a block
--     faithful            the output runs as the function does
--     owners              each slot that is named has one owner, a vreg or a branch, and units of its own, of its
--                         owner's class
--     live                values that are live between blocks are in the slots that their vregs own, or where the
--                         branch between them defined them
--     slots               slots take few units
--     unspilled           where each vreg can have a register of its own, there are no moves and no slots
--     branch_slots        a branch owns two slots for a class at most, and only moves at the point before it name them
--     labels              there is a debug location for each label that is kept, from its vreg's first point to its last
--                         one, by rising label, and as listed where labels are equal; its place is valid, and that of an
--                         operand that names the vreg, or the slot that the vreg owns; it holds the vreg's value
pub record IsAllocation (f : FunctionValue) (env : MachineValue) (out : OutputValue) : Type 0 where
  pub in_order : IsInOrder f out
  pub constraints : (i : ℕ) → i < length f.insts → ConstraintsMet f env out i
  pub proper : PlacesAreValid f env out
  pub no_stack_to_stack : All (λ e. IsStackToStack env e.1 → ⊥) out.edits
  pub listed : All (λ e. (b i : ℕ) × (b < length f.blocks) × ((block_at f b).range.first ≤ i) × (i < (block_at f b).range.end)
      × (is_listed_at (block_at f b).range.first i e.0 ≡ true)) out.edits
  pub faithful : IsDefinitelyAssigned f → RunsAsTheFunction f env out
  pub owners : AreSlotsOwned f out
  pub live : IsDefinitelyAssigned f → LiveInSlots f out owners.owner
  pub slots : (out.num_spillslots ≤ 2 ^ 24) × (out.num_spillslots ≤ units_at_most f)
  pub unspilled : HasRegistersForAll f env → (out.edits ≡ []) × (out.num_spillslots ≡ 0)
  pub branch_slots : (n i : ℕ) (class : RegClass) (index : ℕ) → IsSlotOf out n → owners.owner n ≡ OfBranch i class index → ServesBranch out n i index
  pub labels : AreDebugLocations f (λ l d. IsValidPlace env out l.vreg.class d.place
      × (((i k : ℕ) × NamesAt f l.vreg i k × (place_at (allocs_of out i) k ≡ d.place)) ⊎ ((n : ℕ) × (d.place ≡ InSlot n) × (owners.owner n ≡ OfVReg l.vreg)))
      × (IsDefinitelyAssigned f → ShowsValue f out l.vreg d.place)) out
