-- What each step of making the tables notes.
use Rattle.std.specs.Prelude.{ℕ, ◌≡◌, ◌<◌, ◌⊎◌, ◌++◌, Bool, true, false, List, [], length, slice_index, slice_index_or, ◌↔◌, Option, None, Some, IsSome}
use Rattle.std.specs.Prelude.{Contains}
use Rattle.regalloc2_names.specs.Register.{VirtualRegister}
use Rattle.regalloc2_names.specs.Operand.{OperandValue, is_reading}
use Rattle.regalloc2_function.specs.FunctionValue.{FunctionValue, block_at, inst_at, last_of, op_at}
use Rattle.regalloc2_analysis.specs.BranchDefs.BranchDefs.{DefinesNumber, IsUsedElsewhere, fixed_definition}
use Rattle.regalloc2_analysis.specs.declared.branch_defs.DefSite.{DefSite}
use Rattle.regalloc2_analysis.specs.declared.branch_defs.EdgeInto.{EdgeInto}

-- the first operands of a branch are noted by the numbers that they define, and nothing is forgotten
pub record NotesSites (operands : List OperandValue) (branch count : ℕ) (old new : List (Option DefSite)) : Type 0 where
  pub long : length new ≡ length old
  pub from : (n : ℕ) (s : DefSite) → slice_index_or new n None ≡ Some s → (slice_index_or old n None ≡ Some s) ⊎ ((s.branch ≡ branch)
      × DefinesNumber operands n s.index)
  pub kept : (n : ℕ) → slice_index_or new n None ≡ None → slice_index_or old n None ≡ None
  pub noted : (n k : ℕ) → k < count → n < length old → DefinesNumber operands n k → slice_index_or new n None ≡ None → ⊥

-- the operands of a block's last instruction are noted, if it is a branch
pub record NotesBranch (f : FunctionValue) (b : ℕ) (old new : List (Option DefSite)) : Type 0 where
  pub branch : (inst_at f (last_of (block_at f b))).is_branch ≡ true → NotesSites (inst_at f (last_of (block_at f b))).operands (last_of (block_at f b))
      (length (inst_at f (last_of (block_at f b))).operands) old new
  pub no_branch : (inst_at f (last_of (block_at f b))).is_branch ≡ false → new ≡ old

-- an instruction is noted as the one that defines a number
abbrev pub IsSiteAt : List (Option DefSite) → ℕ → ℕ → Type 0
IsSiteAt sites n branch = (k : ℕ) × (slice_index_or sites n None ≡ Some (record { branch = branch; index = k }))

-- one of the first operands reads a number
abbrev pub ReadsAmong : List OperandValue → ℕ → ℕ → Type 0
ReadsAmong operands count n = (k : ℕ) × (k < count) × (is_reading (op_at operands k) ≡ true) × ((op_at operands k).vreg.number ≡ n)

-- one of the first instructions reads a number
abbrev pub ReadsIn : FunctionValue → ℕ → ℕ → Type 0
ReadsIn f count n = (i : ℕ) × (i < count) × ReadsAmong (inst_at f i).operands (length (inst_at f i).operands) n

-- one of the first arguments has a number, which the instruction isn't noted to define
abbrev pub PassesAmong : List (Option DefSite) → ℕ → List VirtualRegister → ℕ → ℕ → Type 0
PassesAmong sites inst arguments count n = (j : ℕ) × (v : VirtualRegister) × (j < count) × (slice_index_or arguments j v ≡ v) × (v.number ≡ n)
    × (IsSiteAt sites n inst → ⊥)

-- a number is passed at one of the first edges out of a block
abbrev pub PassesOut : FunctionValue → List (Option DefSite) → ℕ → ℕ → ℕ → Type 0
PassesOut f sites b count n = (k : ℕ) × (k < count) × PassesAmong sites (last_of (block_at f b)) (slice_index_or (block_at f b).arguments k [])
    (length (slice_index_or (block_at f b).arguments k [])) n

-- a number is passed out of one of the first blocks
abbrev pub PassesIn : FunctionValue → List (Option DefSite) → ℕ → ℕ → Type 0
PassesIn f sites count n = (b : ℕ) × (b < count) × PassesOut f sites b (length (block_at f b).succs) n

-- the numbers of what is used elsewhere are marked
pub record AreUsed (f : FunctionValue) (used : List Bool) : Type 0 where
  pub marked : (n : ℕ) → slice_index_or used n false ≡ true → (v : VirtualRegister) × (v.number ≡ n) × IsUsedElsewhere f v
  pub marks : (v : VirtualRegister) → IsUsedElsewhere f v → slice_index_or used v.number false ≡ true

-- a fixed definition of a marked number
abbrev pub IsMarkedDefinition : List Bool → OperandValue → Type 0
IsMarkedDefinition used o = IsSome (fixed_definition o) × (slice_index_or used o.vreg.number false ≡ true)

-- the indexes of the marked definitions among the first operands are appended, rising
pub record ListsStored (used : List Bool) (operands : List OperandValue) (count : ℕ) (old new : List ℕ) : Type 0 where
  pub added : List ℕ
  pub is : new ≡ old ++ added
  pub rising : (i j : ℕ) → i < j → j < length added → slice_index added i < slice_index added j
  pub members : (k : ℕ) → Contains added k ↔ ((k < count) × IsMarkedDefinition used (op_at operands k))

-- an edge is noted for the first successors, each with its position
pub record NotesEdges (succs : List ℕ) (edge : EdgeInto) (count : ℕ) (old new : List (Option EdgeInto)) : Type 0 where
  pub from : (b : ℕ) (e : EdgeInto) → slice_index_or new b None ≡ Some e → (slice_index_or old b None ≡ Some e) ⊎ ((p : ℕ) × (p < count)
      × (slice_index succs p ≡ b) × (e ≡ record edge { position = p }))
  pub kept : (b : ℕ) → slice_index_or new b None ≡ None → slice_index_or old b None ≡ None
  pub noted : (p : ℕ) → p < count → slice_index_or new (slice_index succs p) None ≡ None → ⊥
