-- What a walk over blocks finds: what they write, and their upward-exposed uses: what they read or pass without writing it before.
use Rattle.std.specs.Prelude.{ℕ, ◌≡◌, ◌<◌, ◌≤◌, ◌&&◌, ◌||◌, Bool, true, false, not, nat_eq, List, length, Contains}
use Rattle.std.specs.List.{list_any}
use Rattle.regalloc2_names.specs.declared.OperandPos.{OperandPos}
use Rattle.regalloc2_names.specs.declared.OperandPos.TheVariants.{Early, Late}
use Rattle.regalloc2_names.specs.Register.{VirtualRegister, is_vreg}
use Rattle.regalloc2_names.specs.Operand.{OperandValue, reads_at}
use Rattle.regalloc2_function.specs.FunctionValue.{FunctionValue, block_at, inst_at}
use Rattle.regalloc2_semantics.specs.Runs.{first_of, arguments_at}
use Rattle.regalloc2_carry.specs.Blocks.{IsUnwritten}
use Rattle.regalloc2_semantics.specs.Sound.{names}
use Rattle.regalloc2_carry.specs.Listing.{defines}
use Rattle.regalloc2_analysis.specs.Liveness.LiveIn.{IsRead, IsNeeded, IsUnwrittenTo}
use Rattle.regalloc2_analysis.specs.Liveness.BlockVRegPairs.{Pair, lists, BlockSets, holds}

-- whether some operand reads v at a position
unfoldable pub reads : OperandPos → VirtualRegister → List OperandValue → Bool
reads pos v ops = list_any (λ o. reads_at pos o && is_vreg o.vreg v) ops

-- whether an instruction of a block has an upward-exposed use of v, given what the block has written before
abbrev pub asks_for_vreg : List OperandValue → BlockSets → ℕ → VirtualRegister → Bool
asks_for_vreg ops written b v = (reads Early v ops && not (holds written (b, v))) || (reads Late v ops && not (holds written (b, v) || defines v ops))

-- what is listed is needed at its block's beginning
abbrev pub AreNeeded : FunctionValue → List Pair → Type 0
AreNeeded f needs = (p : Pair) → lists needs p ≡ true → (p.0 < length f.blocks) × IsNeeded f p.1 (first_of f p.0)

-- the list loses nothing, and has only what is needed where it had
pub record FindsNeeds (f : FunctionValue) (old new : List Pair) : Type 0 where
  pub kept : (p : Pair) → lists old p ≡ true → lists new p ≡ true
  pub sound : AreNeeded f old → AreNeeded f new

-- the block's own set is what its instructions before i write; the sets of other blocks stay
pub record WritesTo (f : FunctionValue) (b i : ℕ) (old new : BlockSets) : Type 0 where
  pub others : (p : Pair) → nat_eq b p.0 ≡ false → holds new p ≡ holds old p
  pub unwritten : (v : VirtualRegister) → holds new (b, v) ≡ false → IsUnwrittenTo f b i v
  pub unlisted : (v : VirtualRegister) → IsUnwrittenTo f b i v → holds new (b, v) ≡ false

-- a walk over a block's instructions before one: what they read and the block didn't write before is needed
pub record IsBlockWalkedTo (f : FunctionValue) (b i : ℕ) (written : BlockSets) (needs : List Pair) (written' : BlockSets) (needs' : List Pair) : Type 0 where
  pub writes : WritesTo f b i written written'
  pub finds : FindsNeeds f needs needs'
  pub read : (j : ℕ) (v : VirtualRegister) → (block_at f b).range.first ≤ j → j < i → IsRead v (inst_at f j).operands → IsUnwrittenTo f b j v →
      lists needs' (b, v) ≡ true

-- what a block passes to its first successors and doesn't write is needed
pub record PassesNeeds (f : FunctionValue) (b n : ℕ) (written : BlockSets) (old new : List Pair) : Type 0 where
  pub kept : (p : Pair) → lists old p ≡ true → lists new p ≡ true
  pub only : (p : Pair) → lists new p ≡ true → lists old p ≡ false → (b ≡ p.0) × (holds written p ≡ false)
      × ((k : ℕ) × (k < n) × Contains (arguments_at f b k) p.1)
  pub passed : (k : ℕ) (v : VirtualRegister) → k < n → Contains (arguments_at f b k) v → holds written (b, v) ≡ false → lists new (b, v) ≡ true

-- a walk over a whole block
pub record IsBlockWalked (f : FunctionValue) (b : ℕ) (written : BlockSets) (needs : List Pair) (written' : BlockSets) (needs' : List Pair) : Type 0 where
  pub walked : IsBlockWalkedTo f b (block_at f b).range.end written needs written' needs'
  pub passed : (k : ℕ) (v : VirtualRegister) → k < length (block_at f b).succs → Contains (arguments_at f b k) v → IsUnwritten f b v →
      lists needs' (b, v) ≡ true

-- the sets of the first blocks are what they write, and the others are empty
pub record AreWrites (f : FunctionValue) (n : ℕ) (written : BlockSets) : Type 0 where
  pub unwritten : (b : ℕ) (v : VirtualRegister) → b < n → holds written (b, v) ≡ false → IsUnwritten f b v
  pub unlisted : (b : ℕ) (v : VirtualRegister) → b < n → IsUnwritten f b v → holds written (b, v) ≡ false
  pub fresh : (p : Pair) → n ≤ p.0 → holds written p ≡ false

-- the upward-exposed uses of the first blocks are listed, and only what is needed
pub record AreAsked (f : FunctionValue) (n : ℕ) (needs : List Pair) : Type 0 where
  pub sound : AreNeeded f needs
  pub read : (b j : ℕ) (v : VirtualRegister) → b < n → (block_at f b).range.first ≤ j → j < (block_at f b).range.end → IsRead v (inst_at f j).operands →
      IsUnwrittenTo f b j v → lists needs (b, v) ≡ true
  pub passed : (b k : ℕ) (v : VirtualRegister) → b < n → k < length (block_at f b).succs → Contains (arguments_at f b k) v → IsUnwritten f b v →
      lists needs (b, v) ≡ true

-- the parameters of the first blocks
pub record AreParameters (f : FunctionValue) (n : ℕ) (params : BlockSets) : Type 0 where
  pub listed : (p : Pair) → p.0 < n → holds params p ≡ names p.1 (block_at f p.0).params
  pub fresh : (p : Pair) → n ≤ p.0 → holds params p ≡ false
