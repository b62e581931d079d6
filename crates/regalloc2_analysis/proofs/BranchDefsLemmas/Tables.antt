-- The tables, put together.
use Rattle.std.proofs.Common.{ℕ, ◌≡◌, List, [], length, sym, ap, ◌∙◌}
use Rattle.std.specs.Prelude.{Option, None, Some, slice_index_or}
use Rattle.regalloc2_function.specs.FunctionValue.{FunctionValue}
use Rattle.regalloc2_analysis.specs.BranchDefs.BranchDefs.{HasDefinitions, MayHaveTables}
use Rattle.regalloc2_analysis.specs.BranchDefs.Tables.{AreBranchDefsOf, AreEdges, AreDefSites}
use Rattle.regalloc2_analysis.specs.declared.branch_defs.BranchDefs.{BranchDefs}
use Rattle.regalloc2_analysis.proofs.BranchDefsLemmas.BlockEnds.{no_site_without}

nothing_in : {X : Type 0} (xs : List (Option X)) → xs ≡ [] → (n : ℕ) (x : X) → slice_index_or xs n None ≡ Some x → ⊥
nothing_in {X} xs none n x e = let no : None ≡ Some x = ap (λ (ys : List (Option X)). slice_index_or ys n None) (sym none) ∙ e in cc

-- where no branch defines they are empty
pub tables_none : {A : Type 0} (f : FunctionValue) (t : BranchDefs A) → MayHaveTables f → (HasDefinitions f → ⊥) → t.sites.items ≡ [] → t.edges.items ≡ [] →
    AreBranchDefsOf f t
tables_none f t w none no_sites no_edges = record {
  site = λ n s e. absurd (nothing_in t.sites.items no_sites n s e);
  no_site = λ n e i k s. no_site_without f w none n i k s;
  edge = λ b e h. absurd (nothing_in t.edges.items no_edges b e h);
  no_edge = λ b e from position into. none (from, into.block, into.definitions);
}

-- the tables that were filled from all blocks are the tables of the function
pub tables_all : {A : Type 0} (f : FunctionValue) (t : BranchDefs A) → AreDefSites f t.sites.items →
    AreEdges f (length f.blocks) t.edges.items t.stored.items → AreBranchDefsOf f t
tables_all f t sites edges = record {
  site = sites.site;
  no_site = sites.no_site;
  edge = edges.edge;
  no_edge = λ b e from position into. edges.no_edge b e from position into.block into;
}
