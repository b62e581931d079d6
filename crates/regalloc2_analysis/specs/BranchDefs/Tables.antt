-- The tables of what branches define.
use Rattle.std.specs.Prelude.{ℕ, ◌≡◌, ◌<◌, ◌≤◌, true, List, length, slice_index_or, slice_range, ◌↔◌, Option, None, Some}
use Rattle.regalloc2_names.specs.Register.{Register, has_register}
use Rattle.regalloc2_function.specs.FunctionValue.{FunctionValue, block_at, inst_at, last_of}
use Rattle.regalloc2_analysis.specs.BranchDefs.BranchDefs.{IsSite, IsHeld, AreStoredOperands, IsEdgeInto}
use Rattle.regalloc2_analysis.specs.declared.branch_defs.DefSite.{DefSite}
use Rattle.regalloc2_analysis.specs.declared.branch_defs.EdgeInto.{EdgeInto}
use Rattle.regalloc2_analysis.specs.declared.branch_defs.BranchDefs.{BranchDefs}

-- the operand of a branch that the tables give for a number
abbrev pub site_of : {A : Type 0} → BranchDefs A → ℕ → Option DefSite
site_of t n = slice_index_or t.sites.items n None

-- the edge that the tables give for a block
abbrev pub edge_of : {A : Type 0} → BranchDefs A → ℕ → Option EdgeInto
edge_of t b = slice_index_or t.edges.items b None

-- the operands of an edge's branch that are listed as stored
abbrev pub stored_of : {A : Type 0} → BranchDefs A → EdgeInto → List ℕ
stored_of t e = slice_range t.stored.items e.first e.end

-- an edge's operands are within the list of stored operands
abbrev pub IsEdgeWithin : List ℕ → EdgeInto → Type 0
IsEdgeWithin stored e = (e.first ≤ e.end) × (e.end ≤ length stored)

-- what an entry of the table says of an edge into the block b, where operands are listed as stored
pub record IsEdgeOf (f : FunctionValue) (b : ℕ) (listed : List ℕ) (e : EdgeInto) : Type 0 where
  pub edge : IsEdgeInto f b e.from e.position
  pub branch : e.branch ≡ last_of (block_at f e.from)
  pub held : (r : Register) → (has_register e.held r ≡ true) ↔ IsHeld (inst_at f e.branch).operands r
  pub within : IsEdgeWithin listed e
  pub stored : AreStoredOperands f (inst_at f e.branch).operands (slice_range listed e.first e.end)

-- by number, the operand of a branch that defines it
pub record AreDefSites (f : FunctionValue) (sites : List (Option DefSite)) : Type 0 where
  pub site : (n : ℕ) (s : DefSite) → slice_index_or sites n None ≡ Some s → IsSite f n s.branch s.index
  pub no_site : (n : ℕ) → slice_index_or sites n None ≡ None → (branch k : ℕ) → IsSite f n branch k → ⊥

-- by block, the edge into it out of one of the first blocks
pub record AreEdges (f : FunctionValue) (count : ℕ) (edges : List (Option EdgeInto)) (stored : List ℕ) : Type 0 where
  pub long : length edges ≡ length f.blocks
  pub edge : (b : ℕ) (e : EdgeInto) → slice_index_or edges b None ≡ Some e → IsEdgeOf f b stored e
  pub no_edge : (b : ℕ) → slice_index_or edges b None ≡ None → (from position : ℕ) → from < count → IsEdgeInto f b from position → ⊥

-- the tables of a function
pub record AreBranchDefsOf {A : Type 0} (f : FunctionValue) (t : BranchDefs A) : Type 0 where
  pub site : (n : ℕ) (s : DefSite) → site_of t n ≡ Some s → IsSite f n s.branch s.index
  pub no_site : (n : ℕ) → site_of t n ≡ None → (branch k : ℕ) → IsSite f n branch k → ⊥
  pub edge : (b : ℕ) (e : EdgeInto) → edge_of t b ≡ Some e → IsEdgeOf f b t.stored.items e
  pub no_edge : (b : ℕ) → edge_of t b ≡ None → (from position : ℕ) → IsEdgeInto f b from position → ⊥
