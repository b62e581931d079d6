-- What a branch does to the tables: its arguments are spilled to their slots, and moved from there to the parameters'
-- slots.
use Rattle.std.specs.Prelude.{ℕ, ◌≡◌, ◌≢◌, ◌+◌, ◌<◌, ◌≤◌, ◌⊎◌, ◌++◌, ◌∷◌, [], List, Bool, true, false, if◌then◌else◌, length, Contains, None, Some}
use Rattle.std.specs.Prelude.{slice_index_or}
use Rattle.std.specs.List.{All}
use Rattle.regalloc2_names.specs.declared.RegClass.{RegClass}
use Rattle.regalloc2_names.specs.declared.RegClass.TheVariants.{Int, Float, Vector}
use Rattle.regalloc2_names.specs.Register.{Register, VirtualRegister, class_code, no_vreg, has_register}
use Rattle.regalloc2_names.specs.Place.{Place, NoPlace, InRegister, InSlot, is_on_stack, before}
use Rattle.regalloc2_function.specs.FunctionValue.{FunctionValue, block_at, inst_at, last_of}
use Rattle.regalloc2_semantics.specs.Runs.{arguments_at}
use Rattle.regalloc2_semantics.specs.Sound.{HasEdge, target_at}
use Rattle.regalloc2_analysis.specs.BranchDefs.BranchDefs.{DefinesNumber}
use Rattle.regalloc2_parts.specs.AtOnce.{ends_of, own_names, in_turn, HasOneSourceEach}
use Rattle.regalloc2_fastalloc_state.specs.declared.inst_regs.InstRegs.{InstRegs}
use Rattle.regalloc2_parts.specs.declared.scratch_pool.ScratchPair.{ScratchPair}
use Rattle.regalloc2_fastalloc_state.specs.StateParts.{SpillSlotsValue, alloc_of, SetsAlloc, GetsSpillSlot, SlotsHaveOneOwner, AddsTempSlots, later_end}
use Rattle.regalloc2_fastalloc_state.specs.StateParts.{NoneIsFrom, later_slot, most_units}
use Rattle.regalloc2_fastalloc_state.specs.ScratchPool.{Moves, pushed, HasTooFewSlots}
use Rattle.regalloc2_fastalloc_state.specs.InstRegs.{IsAvailableAt}
use Rattle.regalloc2_fastalloc_state.specs.Positions.{both_positions}
use Rattle.regalloc2_fastalloc_proofs.specs.InstSteps.{StateValue, Outcome, next, no_register, InTurn, SameMachine, EvictPReg, EvictsPReg, MayHold}

-- the next two temporary slots of a class, where there is room for them
pub record AreNextTempSlots (s : SpillSlotsValue) (class : RegClass) (pair : ScratchPair) : Type 0 where
  pub first : (p : Place) → pair.first ≡ Some p → (p ≡ InSlot (later_slot s class 0)) × (later_end s class 0 ≤ most_units)
  pub second : (p : Place) → pair.second ≡ Some p → (p ≡ InSlot (later_slot s class 1)) × (later_end s class 1 ≤ most_units)
  pub short : HasTooFewSlots pair → most_units < later_end s class 1
  pub owned : SlotsHaveOneOwner s

-- a scratch register for moves of a class: the machine's dedicated one, or an allocatable one that is free at both
-- positions
abbrev pub MayBeScratch : InstRegs → StateValue → RegClass → Register → Type 0
MayBeScratch inst_regs t class r = (slice_index_or t.dedicated_scratch (class_code class) None ≡ Some r)
    ⊎ (MayHold t class r × IsAvailableAt inst_regs both_positions r)

-- the place is a scratch register for moves of a class
abbrev pub IsScratchRegFor : InstRegs → StateValue → RegClass → Place → Type 0
IsScratchRegFor inst_regs t class p = (r : Register) × (p ≡ InRegister r) × MayBeScratch inst_regs t class r

-- no allocatable register, and no register reserved for moves, is a fixed stack slot
pub record RegsAvoidStack (t : StateValue) : Type 0 where
  pub allocatable : (r : Register) → has_register t.allocatable r ≡ true → has_register t.fixed_stack r ≡ false
  pub dedicated_scratch : (class : RegClass) (r : Register) → slice_index_or t.dedicated_scratch (class_code class) None ≡ Some r
      → has_register t.fixed_stack r ≡ false

-- moves between slots below a count
abbrev pub IsSlotBelow : ℕ → Place → Type 0
IsSlotBelow count p = (n : ℕ) × (p ≡ InSlot n) × (n < count)

-- both ends of each move are slots below a count
abbrev pub AreBetweenSlots : ℕ → Moves → Type 0
AreBetweenSlots count ms = All (λ m. IsSlotBelow count m.0 × IsSlotBelow count m.1) ms

-- a scratch place: a scratch register for the class, or a new slot
abbrev pub IsScratchPlace : InstRegs → StateValue → RegClass → Place → Type 0
IsScratchPlace inst_regs old class p = IsScratchRegFor inst_regs old class p ⊎ ((k : ℕ) × (p ≡ InSlot k) × (old.slots.count ≤ k))

-- a place that the moves go through: a scratch register, the borrowed register, or one of the class's next temporary
-- slots
abbrev pub IsScratchUsed : InstRegs → StateValue → StateValue → RegClass → Place → Type 0
IsScratchUsed inst_regs old new class p =
    ((r : Register) × (p ≡ InRegister r) × (MayBeScratch inst_regs old class r ⊎ MayHold old class r))
    ⊎ ((k : ℕ) × (p ≡ InSlot k) × (old.slots.count ≤ k) × (k < new.slots.count) × (j : ℕ) × (k ≡ later_slot old.slots class j)
    × (later_end old.slots class j ≤ new.slots.count))

-- a move that implements the given ones
pub record IsOrdered (inst_regs : InstRegs) (class : RegClass) (given : Moves) (old new : StateValue) (m : Place × Place × Unit {0}) : Type 0 where
  pub between : (m.0 ≢ NoPlace) × (m.1 ≢ NoPlace)
  pub apart : is_on_stack old.fixed_stack m.0 ≡ true → is_on_stack old.fixed_stack m.1 ≡ true → ⊥
  pub source : IsScratchUsed inst_regs old new class m.0 ⊎ ((n : Place × Place × Unit {0}) × Contains given n × (m.0 ≡ n.0))
  pub target : IsScratchUsed inst_regs old new class m.1 ⊎ ((n : Place × Place × Unit {0}) × Contains given n × (m.1 ≡ n.1))

-- The moves `made`, run one after another, do what the given parallel moves of a class do, but for scratch places. All
-- else stays but the number of temporary slots, which grows by two at most.
pub record OrdersMoves (inst_regs : InstRegs) (class : RegClass) (given made : Moves) (old new : StateValue) : Type 0 where
  pub places : new.places ≡ old.places
  pub edits : new.edits ≡ old.edits
  pub allocatable : new.allocatable ≡ old.allocatable
  pub fixed_stack : new.fixed_stack ≡ old.fixed_stack
  pub dedicated_scratch : new.dedicated_scratch ≡ old.dedicated_scratch
  pub lrus : new.lrus ≡ old.lrus
  pub lends : (taken : ℕ) × (taken ≤ 2) × AddsTempSlots old.slots new.slots class taken
  pub grows : old.slots.count ≤ new.slots.count
  pub assigned : (m : Place × Place × Unit {0}) → Contains given m → in_turn (ends_of made) own_names m.1 ≡ m.0
  pub kept : (q : Place) → q ≢ NoPlace → (IsScratchPlace inst_regs old class q → ⊥) → ((m : Place × Place × Unit {0}) → Contains given m → m.1 ≢ q) →
      in_turn (ends_of made) own_names q ≡ q
  pub each : All (IsOrdered inst_regs class given old new) made
  pub idle : given ≡ [] → (made ≡ []) × (new ≡ old)

-- the moves are pushed at a point, and are listed there in their order before all others
pub record Pushes (point : ℕ) (inst_regs : InstRegs) (class : RegClass) (given : Moves) (old new : StateValue) : Type 0 where
  pub made : Moves
  pub middle : StateValue
  pub orders : OrdersMoves inst_regs class given made old middle
  pub pushes : new ≡ record middle { edits = middle.edits ++ pushed point made }

-- there are moves, but no register of their class is allocatable
abbrev pub LacksMoveReg : RegClass → Moves → StateValue → Type 0
LacksMoveReg class given old = (given ≢ []) × NoneIsFrom old.allocatable class 0

-- parallel moves of a class are put in order, or no register of the class is allocatable
abbrev pub OrderMoves : InstRegs → RegClass → Moves → StateValue → Outcome Moves → Type 0
OrderMoves inst_regs class given old (next made new) = OrdersMoves inst_regs class given made old new
OrderMoves inst_regs class given old no_register = LacksMoveReg class given old

-- parallel moves of a class are ordered and pushed at a point, or no register of the class is allocatable
abbrev pub PushMoves : ℕ → InstRegs → RegClass → Moves → StateValue → Outcome (Unit {0}) → Type 0
PushMoves point inst_regs class given old (next x new) = Pushes point inst_regs class given old new
PushMoves point inst_regs class given old no_register = LacksMoveReg class given old

-- an argument has its slot s as current location, and is moved from there to the register where it is expected
pub data SpillsArgument (point : ℕ) (a : VirtualRegister) (s : Place) (t u : InstRegs) (old new : StateValue) : Type 0 where
  from_register : (r : Register) (m : StateValue) → alloc_of old.places a.number ≡ InRegister r → GetsSpillSlot old.slots m.slots a s → m.places ≡ old.places →
      m.edits ≡ old.edits → SameMachine old m → m.lrus ≡ old.lrus
      → EvictsPReg point r t u m new → SpillsArgument point a s t u old new
  in_slot : ((r : Register) → alloc_of old.places a.number ≡ InRegister r → ⊥) → GetsSpillSlot old.slots new.slots a s → SetsAlloc old.places new.places a s →
      new.edits ≡ old.edits → SameMachine old new → new.lrus ≡ old.lrus → u ≡ t
      → SpillsArgument point a s t u old new

-- the register where the argument is expected can't be emptied
pub record ArgumentIsNotSpilled (point : ℕ) (t : InstRegs) (old : StateValue) : Type 0 where
  pub register : Register
  pub middle : StateValue
  pub places : middle.places ≡ old.places
  pub machine : SameMachine old middle
  pub stops : EvictPReg point register t middle no_register

-- an argument is moved to its slot, or the register that holds it can't be emptied
abbrev pub SpillArgument : ℕ → VirtualRegister → InstRegs → StateValue → Outcome (Place × InstRegs) → Type 0
SpillArgument point a t old (next (s, u) new) = SpillsArgument point a s t u old new
SpillArgument point a t old no_register = ArgumentIsNotSpilled point t old

-- a move of a class, from one place to another
pub record ClassMove : Type 0 where
  pub class : RegClass
  pub from : Place
  pub to : Place

-- whether two classes are the same
unfoldable pub is_class : RegClass → RegClass → Bool
is_class Int Int = true
is_class Float Float = true
is_class Vector Vector = true
is_class c d = false

-- the moves of one class
unfoldable pub of_class : RegClass → List ClassMove → Moves
of_class c [] = []
of_class c (g ∷ gs) = if is_class c g.class then (g.from, g.to, tt) ∷ of_class c gs else of_class c gs

-- what the branch at the end of the block b defines itself
abbrev pub IsOwnDef : FunctionValue → ℕ → VirtualRegister → Type 0
IsOwnDef f b v = (j : ℕ) × DefinesNumber (inst_at f (last_of (block_at f b))).operands v.number j

-- The first n parameters of an edge with their arguments: each parameter's slot is made, the argument is spilled, and a
-- slot-to-slot move is gathered. Nothing is done for arguments that the branch defines itself.
pub data GathersEdgeMoves (Own : VirtualRegister → Type 0) (point : ℕ) (params arguments : List VirtualRegister) (t : InstRegs) (old : StateValue)
    (before_it : List ClassMove) : ℕ → InstRegs →
    StateValue → List ClassMove → Type 0 where
  none_gathered : GathersEdgeMoves Own point params arguments t old before_it 0 t old before_it
  one_gathered : (j : ℕ) (given : List ClassMove) (to from : Place) (u w : InstRegs) (m n o : StateValue) → j < length params →
      GathersEdgeMoves Own point params arguments t old before_it j u m given
      → GetsSpillSlot m.slots n.slots (slice_index_or params j no_vreg) to → n.places ≡ m.places → n.edits ≡ m.edits → SameMachine m n → n.lrus ≡ m.lrus →
      SpillsArgument point (slice_index_or arguments j no_vreg) from u w n o → (Own (slice_index_or arguments j no_vreg) → ⊥)
      → GathersEdgeMoves Own point params arguments t old before_it (j + 1) w o
      (given ++ record { class = (slice_index_or arguments j no_vreg).class; from = from; to = to } ∷ [])
  own_argument : (j : ℕ) (given : List ClassMove) (u : InstRegs) (m : StateValue) → j < length params →
      GathersEdgeMoves Own point params arguments t old before_it j u m given → Own (slice_index_or arguments j no_vreg)
      → GathersEdgeMoves Own point params arguments t old before_it (j + 1) u m given

-- the moves of one edge are gathered, or one of its arguments can't be spilled
abbrev pub GatherEdge : (VirtualRegister → Type 0) → ℕ → List VirtualRegister → List VirtualRegister → InstRegs → StateValue → List ClassMove →
    Outcome (InstRegs × List ClassMove) → Type 0
GatherEdge Own point params arguments t old before_it = InTurn (length params)
    (λ k g m. GathersEdgeMoves Own point params arguments t old before_it k g.0 m g.1)
    (λ k g m. (n : StateValue) × (n.places ≡ m.places) × SameMachine m n × SpillArgument point (slice_index_or arguments k no_vreg) g.0 n no_register)

-- the moves of the first k edges out of the block b
pub data GathersMoves (f : FunctionValue) (b point : ℕ) (t : InstRegs) (old : StateValue) : ℕ → InstRegs → StateValue → List ClassMove → Type 0 where
  no_edge : GathersMoves f b point t old 0 t old []
  one_edge : (k : ℕ) (given more : List ClassMove) (u w : InstRegs) (m n : StateValue) → k < length (block_at f b).succs
      → GathersMoves f b point t old k u m given
      → GathersEdgeMoves (IsOwnDef f b) point (block_at f (target_at f b k)).params (arguments_at f b k) u m given
      (length (block_at f (target_at f b k)).params)
      w n more →
      GathersMoves f b point t old (k + 1) w n more

-- the moves of all edges out of a block are gathered, or an argument of one of them can't be spilled
abbrev pub GatherMoves : FunctionValue → ℕ → ℕ → InstRegs → StateValue → Outcome (InstRegs × List ClassMove) → Type 0
GatherMoves f b point t old = InTurn (length (block_at f b).succs) (λ k g m. GathersMoves f b point t old k g.0 m g.1)
    (λ k g m. GatherEdge (IsOwnDef f b) point (block_at f (target_at f b k)).params (arguments_at f b k) g.0 m g.1 no_register)

-- the branch at the end of the block b passes its arguments: all are spilled, then the moves of each class are pushed
pub record ProcessesBranch (f : FunctionValue) (b i : ℕ) (t u : InstRegs) (old new : StateValue) : Type 0 where
  pub given : List ClassMove
  pub gathered : StateValue
  pub ints : StateValue
  pub floats : StateValue
  pub gathers : GathersMoves f b (before i) t old (length (block_at f b).succs) u gathered given
  pub int : Pushes (before i) u Int (of_class Int given) gathered ints
  pub float : Pushes (before i) u Float (of_class Float given) ints floats
  pub vector : Pushes (before i) u Vector (of_class Vector given) floats new

-- an argument can't be spilled, or the moves of one class lack a register
pub data BranchIsNotProcessed (f : FunctionValue) (b i : ℕ) (t : InstRegs) (old : StateValue) : Type 0 where
  in_gather : GatherMoves f b (before i) t old no_register → BranchIsNotProcessed f b i t old
  in_order : (class : RegClass) (u : InstRegs) (m n : StateValue) (given : List ClassMove) →
      GathersMoves f b (before i) t old (length (block_at f b).succs) u m given → n.allocatable ≡ m.allocatable
      → LacksMoveReg class (of_class class given) n → BranchIsNotProcessed f b i t old

-- a branch passes its arguments, or a register is missing
abbrev pub ProcessBranch : FunctionValue → ℕ → ℕ → InstRegs → StateValue → Outcome InstRegs → Type 0
ProcessBranch f b i t old (next u new) = ProcessesBranch f b i t u old new
ProcessBranch f b i t old no_register = BranchIsNotProcessed f b i t old

-- the gathered moves, by class
pub record AreOf (ints floats vectors : Moves) (given : List ClassMove) : Type 0 where
  pub int : ints ≡ of_class Int given
  pub float : floats ≡ of_class Float given
  pub vector : vectors ≡ of_class Vector given

-- all of these vregs are in the tables
abbrev pub AreVRegsInTables : List VirtualRegister → StateValue → Type 0
AreVRegsInTables vs t = All (λ v. v.number < length t.places.vreg_allocs) vs

-- the parameters of all edges out of a block have distinct numbers
abbrev pub ParametersDiffer : FunctionValue → ℕ → Type 0
ParametersDiffer f b = (k l i j : ℕ) → HasEdge f b k → HasEdge f b l → (let ps : List VirtualRegister = (block_at f (target_at f b k)).params in
    let qs : List VirtualRegister = (block_at f (target_at f b l)).params in
    i < length ps → j < length qs → (slice_index_or ps i no_vreg).number ≡ (slice_index_or qs j no_vreg).number → (k ≡ l) × (i ≡ j))

-- a block whose branch may pass its arguments: its edges lead to blocks, with as many arguments as parameters, all of
-- them known
pub record MayBranch (f : FunctionValue) (b : ℕ) (t : StateValue) : Type 0 where
  pub targets : (k : ℕ) → HasEdge f b k → target_at f b k < length f.blocks
  pub counted : (k : ℕ) → HasEdge f b k → length (arguments_at f b k) ≡ length (block_at f (target_at f b k)).params
  pub parameters : (k : ℕ) → HasEdge f b k → AreVRegsInTables (block_at f (target_at f b k)).params t
  pub arguments : (k : ℕ) → HasEdge f b k → AreVRegsInTables (arguments_at f b k) t

-- the machine's registers, the slot sizes and the number of vregs stay; at most `more` temporary slots are added
pub record AddsTempSlotsAtMost (more : ℕ) (old new : StateValue) : Type 0 where
  pub allocatable : new.allocatable ≡ old.allocatable
  pub fixed_stack : new.fixed_stack ≡ old.fixed_stack
  pub dedicated_scratch : new.dedicated_scratch ≡ old.dedicated_scratch
  pub sizes : new.slots.sizes ≡ old.slots.sizes
  pub vregs : length new.slots.vreg_spillslots ≡ length old.slots.vreg_spillslots
  pub num_temp_slots : new.slots.num_temp_slots ≤ old.slots.num_temp_slots + more

-- the moves of each class are pushed, one class after another
pub record PushesAllClasses (point : ℕ) (inst_regs : InstRegs) (ints floats vectors : Moves) (old new : StateValue) : Type 0 where
  pub after_ints : StateValue
  pub after_floats : StateValue
  pub int : Pushes point inst_regs Int ints old after_ints
  pub float : Pushes point inst_regs Float floats after_ints after_floats
  pub vector : Pushes point inst_regs Vector vectors after_floats new

-- the moves of all three classes are pushed, or the moves of one class lack a register
abbrev pub PushAllClasses : ℕ → InstRegs → Moves → Moves → Moves → StateValue → Outcome (Unit {0}) → Type 0
PushAllClasses point inst_regs ints floats vectors old (next x new) = PushesAllClasses point inst_regs ints floats vectors old new
PushAllClasses point inst_regs ints floats vectors old no_register =
    LacksMoveReg Int ints old ⊎ (LacksMoveReg Float floats old ⊎ LacksMoveReg Vector vectors old)

-- valid parallel moves: between slots below a count, and two moves into one place have one source
pub record MayBeParallel (count : ℕ) (ms : Moves) : Type 0 where
  pub ends : AreBetweenSlots count ms
  pub one_source : HasOneSourceEach (ends_of ms)
