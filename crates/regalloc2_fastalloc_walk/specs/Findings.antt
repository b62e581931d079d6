-- What the walk finds out of a function, beside the places of its operands.
use Rattle.std.specs.Prelude.{ℕ, ◌≡◌, ◌<◌, ◌≤◌, ◌⊎◌, ◌↔◌, true, All, List, length, slice_index_or}
use Rattle.regalloc2_function.specs.FunctionValue.{FunctionValue, InstValue, inst_at}
use Rattle.regalloc2_analysis.specs.LiveRanges.WalkInvariant.{AddsNothing}
use Rattle.regalloc2_function.specs.WellFormed.{BranchDefinesInPlace}
use Rattle.regalloc2_fastalloc_state.specs.Validate.NoLimits.{IsTakenOperand}
use Rattle.regalloc2_fastalloc_walk.specs.declared.walk.Found.{Found}

-- the instructions from `i` on that may add something to the live ranges of requested numbers are in a list, the last
-- instruction first
pub record ListsAddingFrom (f : FunctionValue) (Asked : ℕ → Type 0) (i : ℕ) (listed : List ℕ) : Type 0 where
  pub falling : (j k : ℕ) → j < k → k < length listed → slice_index_or listed k 0 < slice_index_or listed j 0
  pub from : (j : ℕ) → j < length listed → i ≤ slice_index_or listed j 0
  pub below : (j : ℕ) → j < length listed → slice_index_or listed j 0 < length f.insts
  pub all : (k : ℕ) → i ≤ k → k < length f.insts → AddsNothing f Asked k ⊎ ((j : ℕ) × (j < length listed) × (slice_index_or listed j 0 ≡ k))

-- an instruction passes the tests of operands: none has a limit, and a branch defines only in registers that it names
-- and in stack places
pub record PassesTests (i : InstValue) : Type 0 where
  pub taken : All IsTakenOperand i.operands
  pub branch : BranchDefinesInPlace i

-- each instruction passes the tests of operands
abbrev pub AllPassTests : FunctionValue → Type 0
AllPassTests f = (i : ℕ) → i < length f.insts → PassesTests (inst_at f i)

-- the walk says whether the instructions from `i` on pass, and lists the ones that may add something
pub record IsFound {A : Type 0} (f : FunctionValue) (Asked : ℕ → Type 0) (i : ℕ) (found : Found A) : Type 0 where
  pub passes : (found.passes ≡ true) ↔ ((k : ℕ) → i ≤ k → k < length f.insts → PassesTests (inst_at f k))
  pub changed : ListsAddingFrom f Asked i found.changed.items
