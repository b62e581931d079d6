-- The preconditions on a function, in the order in which they are tested.
-- The tests are as in upstream's `CFGInfo::init` and `validate_ssa`, and what its allocators take for granted.
use Rattle.std.specs.Prelude.{ℕ, ◌≡◌, ◌+◌, ◌-◌, ◌<◌, ◌≤◌, ◌⊎◌, true, false, ◌&&◌, nat_eq, if◌then◌else◌, List, [], ◌∷◌, All, Contains, count_by, length}
use Rattle.std.specs.Prelude.{map, slice_index, slice_index_or}
use Rattle.regalloc2_names.specs.declared.OperandConstraint.{OperandConstraint}
use Rattle.regalloc2_names.specs.declared.OperandConstraint.TheVariants.{Any, Reg, Stack, FixedReg, Reuse, Limit}
use Rattle.regalloc2_names.specs.declared.RegClass.{RegClass}
use Rattle.regalloc2_names.specs.declared.sets.PRegSet.{PRegSet}
use Rattle.regalloc2_names.specs.declared.OperandKind.TheVariants.{Def, Use}
use Rattle.regalloc2_names.specs.declared.OperandPos.TheVariants.{Early, Late}
use Rattle.regalloc2_names.specs.Register.{Register, VirtualRegister, has_register}
use Rattle.regalloc2_names.specs.Operand.{OperandValue, is_def, is_reading}
use Rattle.regalloc2_names.specs.Place.{before, after}
use Rattle.regalloc2_function.specs.FunctionValue.{FunctionValue, BlockValue, InstValue, block_at, inst_at, EachBlock, EachOperand, EachInst, last_of, op_at}
use Rattle.regalloc2_function.specs.Machine.{MachineValue, is_allocatable}

-- how often a number is in a list
abbrev pub times_in : ℕ → List ℕ → ℕ
times_in n xs = count_by (λ x. nat_eq x n) xs

-- how many edges lead into a block; the function's start counts as one into the entry
abbrev pub ways_into : FunctionValue → ℕ → ℕ
ways_into f b = length (block_at f b).preds + (if nat_eq b f.entry then 1 else 0)

-- the entry and each successor is a block
abbrev pub SuccessorsAreBlocks : FunctionValue → Type 0
SuccessorsAreBlocks f = (f.entry < length f.blocks) × EachBlock f (λ n b. All (λ s. s < length f.blocks) b.succs)

-- a block is nonempty and follows the one before, or begins at the first instruction; the last block ends at the last instruction
abbrev pub FollowsAt : FunctionValue → ℕ → BlockValue → Type 0
FollowsAt f n b = (b.range.first < b.range.end) × (n ≡ 0 → b.range.first ≡ 0) × (0 < n → b.range.first ≡ (block_at f (n - 1)).range.end)
    × (n + 1 ≡ length f.blocks → b.range.end ≡ length f.insts)

-- blocks are nonempty and follow one another, from the first instruction to the last
abbrev pub BlocksFollow : FunctionValue → Type 0
BlocksFollow f = EachBlock f (FollowsAt f)

-- a block's predecessors are its listings among successors, counted
abbrev pub PredecessorsAt : FunctionValue → ℕ → BlockValue → Type 0
PredecessorsAt f n b = (p : ℕ) → times_in p b.preds ≡ times_in n (block_at f p).succs

-- a block with several incoming edges has no predecessor with several successors
abbrev pub NotCriticalAt : FunctionValue → ℕ → BlockValue → Type 0
NotCriticalAt f n b = 1 < ways_into f n → All (λ p. length (block_at f p).succs ≤ 1) b.preds

-- a block's branch into a block with several incoming edges has no operands
abbrev pub NoOperandsAt : FunctionValue → ℕ → BlockValue → Type 0
NoOperandsAt f n b = All (λ s. 1 < ways_into f s → (inst_at f (last_of b)).operands ≡ []) b.succs

-- the entry is block 0 and has no parameters
abbrev pub EntryIsFirst : FunctionValue → Type 0
EntryIsFirst f = (f.entry ≡ 0) × ((block_at f 0).params ≡ [])

-- an instruction that may end a block with `succs` successors
abbrev pub EndsBlock : InstValue → ℕ → Type 0
EndsBlock i succs = (i.is_branch ≡ true × i.is_ret ≡ false) ⊎ (i.is_branch ≡ false × i.is_ret ≡ true × succs ≡ 0)

-- a block ends, and only ends, in a branch or in a return without successors
abbrev pub EndsAt : FunctionValue → ℕ → BlockValue → Type 0
EndsAt f n b = EndsBlock (inst_at f (last_of b)) (length b.succs)
    × EachInst f b (λ i inst. i < last_of b → (inst.is_branch ≡ false) × (inst.is_ret ≡ false))

-- each successor is given as many arguments as it has parameters
abbrev pub CountedAt : FunctionValue → ℕ → BlockValue → Type 0
CountedAt f n b = (k : ℕ) → k < length b.succs → length (slice_index_or b.arguments k []) ≡ length (block_at f (slice_index b.succs k)).params

-- the arguments for each successor are of the classes of its parameters
abbrev pub ArgumentsFitAt : FunctionValue → ℕ → BlockValue → Type 0
ArgumentsFitAt f n b = (k : ℕ) → k < length b.succs → map (λ v. v.class) (slice_index_or b.arguments k []) ≡ map (λ v. v.class)
    (block_at f (slice_index b.succs k)).params

-- how often a vreg's number is defined: as a parameter and by instructions
abbrev pub definitions_of : FunctionValue → ℕ → ℕ
definitions_of f n = sum_of (map (λ b. count_by (λ v. nat_eq v.number n) b.params) f.blocks) + sum_of
    (map (λ i. count_by (λ o. is_def o.kind && nat_eq o.vreg.number n) i.operands) f.insts)
  where
    sum_of : List ℕ → ℕ
    sum_of [] = 0
    sum_of (x ∷ xs) = x + sum_of xs

-- each number is defined at most once, and below the function's count
abbrev pub DefinedOnce : FunctionValue → Type 0
DefinedOnce f = (n : ℕ) → (definitions_of f n ≤ 1) × (0 < definitions_of f n → n < f.num_vregs)

-- a vreg is defined up to a point, in the order of instruction numbers: as a parameter, just before its block's first
-- instruction, or by an operand, after its instruction
abbrev pub IsDefinedUpTo : FunctionValue → VirtualRegister → ℕ → Type 0
IsDefinedUpTo f v point =
    ((b : ℕ) × (b < length f.blocks) × (before (block_at f b).range.first ≤ point) × Contains (block_at f b).params v)
    ⊎ ((j k : ℕ) × (after j ≤ point) × (k < length (inst_at f j).operands)
    × (is_def (op_at (inst_at f j).operands k).kind ≡ true) × ((op_at (inst_at f j).operands k).vreg ≡ v))

-- each vreg that is read is defined before its instruction, and each that is passed is defined before the branch, or by the branch itself
abbrev pub UsesAreDefined : FunctionValue → Type 0
UsesAreDefined f = EachBlock f (λ n b.
    EachInst f b (λ i inst. EachOperand inst (λ k o. is_reading o ≡ true → IsDefinedUpTo f o.vreg (before i)))
    × ((k : ℕ) → k < length b.succs → All (λ v. IsDefinedUpTo f v (after (last_of b))) (slice_index_or b.arguments k [])))

-- operand `k` is reused: another operand of the instruction has the constraint to reuse it
abbrev pub IsReused : List OperandValue → ℕ → Type 0
IsReused operands k = (j : ℕ) × (j < length operands) × ((op_at operands j).constraint ≡ Reuse k)

-- a constraint that a reused operand may have
abbrev pub MayBeReused : MachineValue → RegClass → OperandConstraint → Type 0
MayBeReused env class Any = ⊥
MayBeReused env class Reg = Unit {0}
MayBeReused env class Stack = ⊥
MayBeReused env class (FixedReg r) = is_allocatable env class r ≡ true
MayBeReused env class (Reuse n) = ⊥
MayBeReused env class (Limit n) = ⊥

-- an operand that a definition of a class may reuse: an early use of a vreg of the class
pub record IsReuseTarget (env : MachineValue) (class : RegClass) (o : OperandValue) : Type 0 where
  pub is_use : o.kind ≡ Use
  pub is_early : o.position ≡ Early
  pub reads : is_reading o ≡ true
  pub same_class : o.vreg.class ≡ class
  pub may_be : MayBeReused env class o.constraint

-- an operand that isn't a reuse, or is a late definition that may reuse the operand that it names
abbrev pub IsSoundReuse : MachineValue → List OperandValue → OperandValue → Type 0
IsSoundReuse env operands o = (n : ℕ) → o.constraint ≡ Reuse n → (o.kind ≡ Def) × (o.position ≡ Late) × (n < length operands)
    × IsReuseTarget env o.vreg.class (op_at operands n)

-- no two of the first `k` operands reuse one operand
abbrev pub AreReusesApart : List OperandValue → ℕ → Type 0
AreReusesApart operands k = (i j n : ℕ) → i < k → j < k → (op_at operands i).constraint ≡ Reuse n → (op_at operands j).constraint ≡ Reuse n → i ≡ j

-- reuses are late definitions of early uses, each of its own
pub record ReusesAreSound (env : MachineValue) (i : InstValue) : Type 0 where
  pub each : EachOperand i (λ k o. IsSoundReuse env i.operands o)
  pub apart : AreReusesApart i.operands (length i.operands)

-- a definition, a late use or a reused operand, if it is fixed, is fixed to no clobber
abbrev pub AvoidsClobbers : PRegSet → OperandValue → (is_reused : Type 0) → Type 0
AvoidsClobbers clobbers o is_reused = (r : Register) → o.constraint ≡ FixedReg r → (o.kind ≡ Def) ⊎ (o.position ≡ Late) ⊎ is_reused →
    has_register clobbers r ≡ false

-- no definition, late use or reused early use is fixed to a clobber
abbrev pub FixedAvoidClobbers : InstValue → Type 0
FixedAvoidClobbers i = EachOperand i (λ k o. AvoidsClobbers i.clobbers o (IsReused i.operands k))

-- a structurally valid function: its blocks and terminators are sound, and its arguments are counted
pub record IsFramed (f : FunctionValue) : Type 0 where
  pub successors : SuccessorsAreBlocks f
  pub follow : BlocksFollow f
  pub end : EachBlock f (EndsAt f)
  pub counted : EachBlock f (CountedAt f)

-- a function that may be allocated
pub record IsWellFormed (env : MachineValue) (f : FunctionValue) : Type 0 where
  pub successors : SuccessorsAreBlocks f
  pub follow : BlocksFollow f
  pub predecessors : EachBlock f (PredecessorsAt f)
  pub no_critical_edge : EachBlock f (NotCriticalAt f)
  pub no_operands_into_joins : EachBlock f (NoOperandsAt f)
  pub entry : EntryIsFirst f
  pub end : EachBlock f (EndsAt f)
  pub counted : EachBlock f (CountedAt f)
  pub classes : EachBlock f (ArgumentsFitAt f)
  pub defined_once : DefinedOnce f
  pub uses_defined : UsesAreDefined f
  pub reuses : All (ReusesAreSound env) f.insts
  pub fixed : All FixedAvoidClobbers f.insts

-- no operand has `Limit`
abbrev pub AreUnlimited : InstValue → Type 0
AreUnlimited i = EachOperand i (λ k o. (n : ℕ) → o.constraint ≡ Limit n → ⊥)

-- the place of an operand under a constraint is known before registers are chosen: a register by name, or a stack place if need be
abbrev pub IsInPlace : OperandConstraint → Type 0
IsInPlace Any = Unit {0}
IsInPlace Reg = ⊥
IsInPlace Stack = Unit {0}
IsInPlace (FixedReg r) = Unit {0}
IsInPlace (Reuse n) = ⊥
IsInPlace (Limit n) = Unit {0}

-- each definition of a branch is under a constraint whose place is known before registers are chosen
abbrev pub BranchDefinesInPlace : InstValue → Type 0
BranchDefinesInPlace i = i.is_branch ≡ true → EachOperand i (λ k o. is_def o.kind ≡ true → IsInPlace o.constraint)
