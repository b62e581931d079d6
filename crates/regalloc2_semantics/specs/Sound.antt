-- Well-formed functions have what the theorem on paths needs, in the words of its proof.
use Rattle.std.specs.Prelude.{ℕ, ◌≡◌, ◌≢◌, ◌<◌, Bool, true, false, ◌||◌, List, [], ◌∷◌, length, slice_index}
use Rattle.regalloc2_names.specs.Register.{VirtualRegister, is_vreg}
use Rattle.regalloc2_names.specs.Operand.{OperandValue, is_def}
use Rattle.regalloc2_function.specs.FunctionValue.{FunctionValue, block_at, inst_at, op_at}
use Rattle.regalloc2_function.specs.Machine.{MachineValue}
use Rattle.regalloc2_function.specs.WellFormed.{IsWellFormed}
use Rattle.regalloc2_semantics.specs.Runs.{Way, Onward, ToSuccessor, Location, arguments_at}

-- whether a list names a vreg
unfoldable pub names : VirtualRegister → List VirtualRegister → Bool
names v [] = false
names v (p ∷ ps) = is_vreg p v || names v ps

-- the block has an edge at a position; and the block that the edge leads to
abbrev pub HasEdge : FunctionValue → ℕ → ℕ → Type 0
HasEdge f b k = k < length (block_at f b).succs

abbrev pub target_at : FunctionValue → ℕ → ℕ → ℕ
target_at f b k = slice_index (block_at f b).succs k

-- no operand defines the vreg
abbrev pub Undefined : List OperandValue → VirtualRegister → Type 0
Undefined operands v = (j : ℕ) → j < length operands → is_def (op_at operands j).kind ≡ true → (op_at operands j).vreg ≡ v → ⊥

-- the edge or fall-through (`Way`) gives v no new value: it leads to no block with v as a parameter
abbrev pub IsAside : FunctionValue → VirtualRegister → Location → Way → Type 0
IsAside f v l Onward = Unit {0}
IsAside f v l (ToSuccessor k) = names v (block_at f (target_at f l.block k)).params ≡ false

-- a block has the vreg as a parameter
abbrev pub IsParameter : FunctionValue → ℕ → VirtualRegister → Type 0
IsParameter f b v = names v (block_at f b).params ≡ true

-- the block isn't the entry, and all edges into it come from one block
pub record IsEnteredOnce (f : FunctionValue) (s : ℕ) : Type 0 where
  pub not_entry : s ≢ f.entry
  pub from_one : (b c i j : ℕ) → HasEdge f b i → HasEdge f c j → target_at f b i ≡ s → target_at f c j ≡ s → b ≡ c

-- what the theorem requires of a function, and each well-formed one meets
pub record HasSoundBlocks (f : FunctionValue) : Type 0 where
  pub nonempty : (b : ℕ) → b < length f.blocks → (block_at f b).range.first < (block_at f b).range.end
  pub entry : f.entry < length f.blocks
  pub targets : (b k : ℕ) → HasEdge f b k → target_at f b k < length f.blocks
  pub one_block : (b c : ℕ) (v : VirtualRegister) → IsParameter f b v → IsParameter f c v → b ≡ c
  pub no_definition : (b i : ℕ) (v : VirtualRegister) → IsParameter f b v → Undefined (inst_at f i).operands v
  pub arguments : (b k : ℕ) → HasEdge f b k → length (block_at f (target_at f b k)).params ≡ length (arguments_at f b k)
  pub no_critical_edge : (b i j : ℕ) → HasEdge f b i → HasEdge f b j → i ≢ j → IsEnteredOnce f (target_at f b j)

abbrev pub WellFormedAreSound : Type 0
WellFormedAreSound = (env : MachineValue) (f : FunctionValue) → IsWellFormed env f → HasSoundBlocks f
