-- What the steps of the walk require of the state that they begin with.
use Rattle.std.specs.Prelude.{ℕ, ◌≡◌, ◌+◌, ◌<◌, ◌≤◌, true, [], List, length, slice_index, slice_index_or}
use Rattle.regalloc2_names.specs.Place.{Place, NoPlace, before, after, inst_limit}
use Rattle.regalloc2_names.specs.Operand.{OperandValue}
use Rattle.regalloc2_names.specs.Register.{VirtualRegister}
use Rattle.regalloc2_function.specs.FunctionValue.{FunctionValue, block_at, inst_at, operand_count}
use Rattle.regalloc2_analysis.specs.declared.branch_defs.BranchDefs.{BranchDefs}
use Rattle.regalloc2_analysis.specs.declared.branch_defs.EdgeInto.{EdgeInto}
use Rattle.regalloc2_analysis.specs.BranchDefs.Tables.{AreBranchDefsOf, IsEdgeOf}
use Rattle.regalloc2_fastalloc_state.specs.StateParts.{AllAtOrAfter, no_allocs}
use Rattle.regalloc2_fastalloc_state.specs.declared.inst_regs.InstRegs.{InstRegs}
use Rattle.regalloc2_fastalloc_proofs.specs.InstSteps.{InTables, IsFresh}
use Rattle.regalloc2_fastalloc_proofs.specs.BranchSteps.{RegsAvoidStack, AreVRegsInTables, MayBeParallel, MayBranch, ParametersDiffer}
use Rattle.regalloc2_fastalloc_state.specs.ScratchPool.{Moves}
use Rattle.regalloc2_fastalloc_proofs.specs.Located.{LocatedAreUsed}
use Rattle.regalloc2_fastalloc_proofs.specs.BlockSteps.{MayBeAllocated, DefinesBelow, offset_of}
use Rattle.regalloc2_analysis.specs.LiveRanges.LiveRanges.{IsWanted}
use Rattle.regalloc2_fastalloc_walk.specs.Findings.{IsFound}
use Rattle.regalloc2_fastalloc_walk.specs.declared.state.State.{State}
use Rattle.regalloc2_fastalloc_walk.specs.declared.walk.Found.{Found}
use Rattle.regalloc2_fastalloc_walk.specs.StateView.{tables_of}

-- the instruction i, which has these operands, is next, with fresh instruction registers; the places of the operands
-- begin at an index of the list of all operands' places
pub record IsBeforeOperands {A : Type 0} (i : ℕ) (operands : List OperandValue) (at : ℕ) (t : InstRegs) (places : List Place) (s : State A) : Type 0 where
  pub inst : i < inst_limit
  pub later : AllAtOrAfter (after i) s.edits
  pub in_tables : InTables operands (tables_of s)
  pub room : at + length operands ≤ length places
  pub no_places : (k : ℕ) → k < at + length operands → slice_index_or places k NoPlace ≡ NoPlace
  pub fresh : IsFresh t (tables_of s)

-- the branch i of the block b is next to pass its arguments
pub record IsBeforeGathering {A C : Type 0} (f : FunctionValue) (d : BranchDefs C) (b i : ℕ) (s : State A) : Type 0 where
  pub block : b < length f.blocks
  pub last : i + 1 ≡ (block_at f b).range.end
  pub nonempty : (block_at f b).range.first ≤ i
  pub inst : i < inst_limit
  pub well_formed : MayBeAllocated f
  pub branch : (inst_at f i).is_branch ≡ true
  pub defs : AreBranchDefsOf f d
  pub later : AllAtOrAfter (before i) s.edits
  pub may_pass : MayBranch f b (tables_of s)

-- the arguments of an edge are next, in the vregs of its parameters
pub record IsBeforeEdge {A : Type 0} (i : ℕ) (ps vs : List VirtualRegister) (s : State A) : Type 0 where
  pub inst : i < inst_limit
  pub later : AllAtOrAfter (before i) s.edits
  pub counted : length vs ≡ length ps
  pub parameters : AreVRegsInTables ps (tables_of s)
  pub arguments : AreVRegsInTables vs (tables_of s)

-- the parallel moves of a class are next to be pushed at a point
pub record IsBeforeMoves {A : Type 0} (point : ℕ) (ms : Moves) (s : State A) : Type 0 where
  pub parallel : MayBeParallel s.slots.count ms
  pub apart : RegsAvoidStack (tables_of s)
  pub later : AllAtOrAfter point s.edits

-- the parallel moves of all classes are next to be pushed at a point
pub record IsBeforeAllMoves {A : Type 0} (point : ℕ) (is fs vs : Moves) (s : State A) : Type 0 where
  pub ints : MayBeParallel s.slots.count is
  pub floats : MayBeParallel s.slots.count fs
  pub vectors : MayBeParallel s.slots.count vs
  pub apart : RegsAvoidStack (tables_of s)
  pub later : AllAtOrAfter point s.edits

-- a branch that has gathered its moves may push them, too
pub record IsBeforePassing {A C : Type 0} (f : FunctionValue) (d : BranchDefs C) (b i : ℕ) (s : State A) : Type 0 where
  pub gathering : IsBeforeGathering f d b i s
  pub differ : ParametersDiffer f b
  pub apart : RegsAvoidStack (tables_of s)

-- the instruction i of the block b is next; the places of its operands begin at an index of the list of all operands'
-- places
pub record IsBeforeInst {A C : Type 0} (f : FunctionValue) (d : BranchDefs C) (b i at : ℕ) (places : List Place) (s : State A) : Type 0 where
  pub block : b < length f.blocks
  pub inst : i < length f.insts
  pub first : (block_at f b).range.first ≤ i
  pub end : i < (block_at f b).range.end
  pub well_formed : MayBeAllocated f
  pub defs : AreBranchDefsOf f d
  pub room : DefinesBelow f (length s.places.vreg_allocs)
  pub apart : RegsAvoidStack (tables_of s)
  pub later : AllAtOrAfter (after i) s.edits
  pub start : at ≡ offset_of f i
  pub allocs_long : length places ≡ operand_count f
  pub no_places : (k : ℕ) → k < offset_of f (i + 1) → slice_index_or places k NoPlace ≡ NoPlace

-- the instruction i of the block b is next, and the instructions after it are noted
pub record IsBeforeNoting {A B C : Type 0} (f : FunctionValue) (d : BranchDefs C) (b i at : ℕ) (places : List Place) (s : State A) (noted : Found B)
    : Type 0 where
  pub inst : IsBeforeInst f d b i at places s
  pub located : LocatedAreUsed f (i + 1) (tables_of s)
  pub found : IsFound f (IsWanted s.places.watched) (i + 1) noted

-- the block b is next, from its last instruction, and the instructions after the block are noted; the list of offsets
-- says where the places of each instruction's operands begin
pub record IsBeforeBlock {A B C : Type 0} (f : FunctionValue) (d : BranchDefs C) (b : ℕ) (starts : List ℕ) (places : List Place) (s : State A)
    (noted : Found B) : Type 0 where
  pub block : b < length f.blocks
  pub well_formed : MayBeAllocated f
  pub defs : AreBranchDefsOf f d
  pub room : DefinesBelow f (length s.places.vreg_allocs)
  pub apart : RegsAvoidStack (tables_of s)
  pub later : AllAtOrAfter (before (block_at f b).range.end) s.edits
  pub offsets_long : length starts ≡ length f.insts
  pub offsets : (i : ℕ) → i < length f.insts → slice_index starts i ≡ offset_of f i
  pub allocs_long : length places ≡ operand_count f
  pub no_places : (k : ℕ) → k < offset_of f (block_at f b).range.end → slice_index_or places k NoPlace ≡ NoPlace
  pub located : LocatedAreUsed f (block_at f b).range.end (tables_of s)
  pub found : IsFound f (IsWanted s.places.watched) (block_at f b).range.end noted

-- the beginning of the block b is next, once its instructions are allocated
pub record IsBeforeBeginning {A C : Type 0} (f : FunctionValue) (d : BranchDefs C) (b : ℕ) (s : State A) : Type 0 where
  pub block : b < length f.blocks
  pub well_formed : MayBeAllocated f
  pub defs : AreBranchDefsOf f d
  pub room : DefinesBelow f (length s.places.vreg_allocs)
  pub apart : RegsAvoidStack (tables_of s)
  pub later : AllAtOrAfter (before (block_at f b).range.first) s.edits

-- what the branch into the block b defines is next to be stored there
pub record IsBeforeStores {A C : Type 0} (f : FunctionValue) (d : BranchDefs C) (b : ℕ) (s : State A) : Type 0 where
  pub block : b < length f.blocks
  pub well_formed : MayBeAllocated f
  pub defs : AreBranchDefsOf f d
  pub room : DefinesBelow f (length s.slots.vreg_spillslots)
  pub apart : RegsAvoidStack (tables_of s)
  pub later : AllAtOrAfter (before (block_at f b).range.first) s.edits

-- what the branch of the edge e defines is next to be listed, for slots of the vregs below n
pub record IsBeforeListing {C : Type 0} (f : FunctionValue) (d : BranchDefs C) (e : EdgeInto) (n : ℕ) : Type 0 where
  pub well_formed : MayBeAllocated f
  pub defs : AreBranchDefsOf f d
  pub edge : (b : ℕ) × IsEdgeOf f b d.stored.items e
  pub room : DefinesBelow f n

-- the last block is next, from a fresh state
pub record IsBeforeWalk {A : Type 0} (f : FunctionValue) (starts : List ℕ) (places : List Place) (s : State A) : Type 0 where
  pub fresh : s.edits ≡ []
  pub nowhere : (n : ℕ) × (s.places ≡ no_allocs n s.places.watched)
  pub well_formed : MayBeAllocated f
  pub room : DefinesBelow f (length s.places.vreg_allocs)
  pub apart : RegsAvoidStack (tables_of s)
  pub offsets_long : length starts ≡ length f.insts
  pub offsets : (i : ℕ) → i < length f.insts → slice_index starts i ≡ offset_of f i
  pub allocs_long : length places ≡ operand_count f
  pub no_places : (k : ℕ) → slice_index_or places k NoPlace ≡ NoPlace
