-- One instruction of the walk, with the tables after and before it; a number that it defines has the same slot from
-- there to the walk's end.
-- The fold in `Changes` of regalloc2_fastalloc_proofs doesn't apply: what holds depends on how far the walk is.
use Rattle.std.proofs.Common.{ℕ, ◌≡◌, ◌≢◌, ◌+◌, ◌<◌, ◌≤◌, ◌⊎◌, inl, inr, List, length, refl, ap, ◌∙◌, subst, arith}
use Rattle.std.specs.Prelude.{slice_index_or}
use Rattle.std.proofs.lemmas.Bool.{cases_eq, cases_lt}
use Rattle.regalloc2_names.specs.Place.{Place, NoPlace, before}
use Rattle.regalloc2_function.specs.FunctionValue.{FunctionValue, block_at, inst_at, op_at, last_of}
use Rattle.regalloc2_function.specs.OutputValue.{place_at}
use Rattle.regalloc2_carry.specs.OperandsPlaced.{Counts}
use Rattle.regalloc2_carry.proofs.Order.{ends_within}
use Rattle.regalloc2_fastalloc_proofs.specs.InstSteps.{StateValue}
use Rattle.regalloc2_names.specs.Register.{no_vreg}
use Rattle.regalloc2_fastalloc_proofs.specs.BlockSteps.{AllocsInstInBlock, AllocsBlockInsts, at_end, one_in, AllocsBlocks, all_left, one_block}
use Rattle.regalloc2_fastalloc_proofs.proofs.Walk.InstsCarry.{AreListed}
use Rattle.regalloc2_fastalloc_proofs.proofs.Slots.StepsKeepSlots.{Grown, grown_none, grown_then, changes_grow}
use Rattle.regalloc2_fastalloc_proofs.proofs.Safety.StateKept.{ends_in_branch}
use Rattle.regalloc2_fastalloc_proofs.proofs.Inst.OneInstCarries.{IsBetweenInsts}
use Rattle.regalloc2_fastalloc_proofs.proofs.Walk.InstBoundaries.{IsEdge, IsWithin, grown_weaken, walk_between, walk_grown, edge_next, allocs_blocks_between}
use Rattle.regalloc2_fastalloc_proofs.proofs.Walk.InstBoundaries.{kept_code_of}
use Rattle.regalloc2_fastalloc_proofs.proofs.Walk.LastInstAndRest.{listed_behind, walk_listed}
use Rattle.regalloc2_fastalloc_proofs.proofs.Debug.UnnamedStaysUnlocated.{StaysOut, IsUnpassed, IsUnstored, out_then, allocs_inst_in_block_out, begins_block_out}
use Rattle.regalloc2_fastalloc_proofs.proofs.Walk.FunctionLaws.{PlacedCode}
use Rattle.regalloc2_fastalloc_proofs.proofs.Changes.WalkChanges.{allocs_inst_in_block_changes, any_inst, begins_block_changes, any_begin}

-- a block begins at the instruction
abbrev pub IsStart : FunctionValue → ℕ → Type 0
IsStart f i = (b : ℕ) × (b < length f.blocks) × ((block_at f b).range.first ≡ i)

-- points before an instruction; if a block begins there, the point in front of it too
abbrev pub IsPointBefore : FunctionValue → ℕ → ℕ → Type 0
IsPointBefore f i p = (p < before i) ⊎ ((p ≡ before i) × IsStart f i)

-- nothing before the instruction i names the number
pub record IsUnnamedBefore (f : FunctionValue) (x i : ℕ) : Type 0 where
  pub insts : (j : ℕ) → j < i → (k : ℕ) → Counts (inst_at f j).operands k → (op_at (inst_at f j).operands k).vreg.number ≢ x
  pub passes : (b : ℕ) → b < length f.blocks → last_of (block_at f b) < i → IsUnpassed x f b
  pub params : (b : ℕ) → b < length f.blocks → (k : ℕ) → k < length (block_at f b).params → (slice_index_or (block_at f b).params k no_vreg).number ≢ x
  pub stores : (b : ℕ) → b < length f.blocks → IsUnstored x f b

-- the instruction i in the walk, with the rest of the walk until final
pub record Met (f : FunctionValue) (placesf : ℕ → List Place) (start : List Place) (begin : StateValue) (i : ℕ) (final : StateValue) : Type 0 where
  pub block : ℕ
  pub within : block < length f.blocks
  pub ge : (block_at f block).range.first ≤ i
  pub less : i < (block_at f block).range.end
  pub blank : List Place
  pub places : List Place
  pub old : StateValue
  pub new : StateValue
  pub allocates : AllocsInstInBlock f block i blank places old new
  pub at : (k : ℕ) → k < length (inst_at f i).operands → place_at (placesf i) k ≡ slice_index_or allocates.allocates.here k NoPlace
  pub end_places : List Place
  pub end_tables : StateValue
  pub blocks : AllocsBlocks f start begin (block + 1) end_places end_tables
  pub inside : AllocsBlockInsts f block end_places end_tables (i + 1) blank old
  pub listed : AreListed f placesf (i + 1) blank
  pub behind : IsBetweenInsts (i + 1) old
  pub rest : Grown (IsPointBefore f i) new final
  pub out : (x : ℕ) → IsUnnamedBefore f x i → StaysOut x new final

module _ (code : PlacedCode) (start : List Place) (begin : StateValue) (i : ℕ) where
  open code use {Known, f, proper, kept, follow, ends, placesf}

  extend : (t u : StateValue) → Grown (IsPointBefore f i) t u → ((x : ℕ) → IsUnnamedBefore f x i → StaysOut x t u) → Met f placesf start begin i t →
      Met f placesf start begin i u
  extend t u g o m = record {
    block = m.block;
    within = m.within;
    ge = m.ge;
    less = m.less;
    blank = m.blank;
    places = m.places;
    old = m.old;
    new = m.new;
    allocates = m.allocates;
    at = m.at;
    end_places = m.end_places;
    end_tables = m.end_tables;
    blocks = m.blocks;
    inside = m.inside;
    listed = m.listed;
    behind = m.behind;
    rest = grown_then (IsPointBefore f i) m.new t u m.rest g;
    out = λ x n. out_then x m.new t u (m.out x n) (o x n);
  }

  module _ (b : ℕ) (lb : b < length f.blocks) (blank : List Place) (old : StateValue) (h : IsBetweenInsts (block_at f b).range.end old)
      (prev_blocks : AllocsBlocks f start begin (b + 1) blank old) where
    within : (j : ℕ) → j < (block_at f b).range.end → j < length f.insts
    within j less = (let e = ends_within f follow b lb in omega (arith, less, e))

    -- an instruction before it
    one_out_of : (j : ℕ) (p q : List Place) (s u : StateValue) → (block_at f b).range.first ≤ j → j < (block_at f b).range.end → j < i →
        AllocsInstInBlock f b j p q s u → (x : ℕ) → IsUnnamedBefore f x i → StaysOut x s u
    one_out_of j p q s u ge less sooner a x unnamed =
        allocs_inst_in_block_out x f b j p q s u (unnamed.insts j sooner)
        (λ is. unnamed.passes b lb (let e = ends_in_branch f ends b j lb ge less is in omega (arith, e, sooner))) a

    walk_out : (j : ℕ) (places : List Place) (t : StateValue) → AllocsBlockInsts f b blank old j places t → (block_at f b).range.end ≤ i → (x : ℕ) →
        IsUnnamedBefore f x i → StaysOut x old t
    walk_out j places t at_end = λ le x n. (λ a. (a, refl))
    walk_out j places t (one_in k p q s u ge less prev a) = λ le x n. out_then x old s u (walk_out (k + 1) p s prev le x n)
        (one_out_of k p q s u ge less (omega (arith, less, le)) a x n)

    meet_in : i < (block_at f b).range.end → (j : ℕ) (places : List Place) (t : StateValue) → AllocsBlockInsts f b blank old j places t →
        AreListed f placesf j places → j ≤ i → Met f placesf start begin i t
    meet_in lt j places t at_end = λ are le. absurd (omega (arith, lt, le))
    meet_in lt j places t (one_in k p q s u ge less prev a) = λ are le. elim (cases_eq k i) [
      | inl e ↦ subst (λ (m : ℕ). Met f placesf start begin m u) e (here k p q s u ge less prev a are)
      | inr ne ↦ (
          let sooner : k < i = omega (arith, le, ne) in
          extend s u
          (changes_grow (IsPointBefore f i)
          (allocs_inst_in_block_changes (any_inst (λ e. IsPointBefore f i e.0) f b k (λ n r. inl (omega (arith, sooner))) (λ n r. inl (omega (arith, sooner)))) a))
          (one_out_of k p q s u ge less sooner a)
          (meet_in lt (k + 1) p s prev (listed_behind code s b k p q s u (within k less) a are)
          (omega (arith, sooner))))
    ]
      where
        here : (k : ℕ) (p q : List Place) (s u : StateValue) → (block_at f b).range.first ≤ k → k < (block_at f b).range.end →
            AllocsBlockInsts f b blank old (k + 1) p s → AllocsInstInBlock f b k p q s u → AreListed f placesf k q → Met f placesf start begin k u
        here k p q s u ge less prev a are = record {
          block = b;
          within = lb;
          ge = ge;
          less = less;
          blank = p;
          places = q;
          old = s;
          new = u;
          allocates = a;
          at = λ m few. are k (omega arith) (within k less) m few ∙ a.allocates.inside m few;
          end_places = blank;
          end_tables = old;
          blocks = prev_blocks;
          inside = prev;
          listed = listed_behind code s b k p q s u (within k less) a are;
          behind = walk_between (kept_code_of Known f proper kept) follow b lb blank old h (k + 1) p s prev;
          rest = grown_none (IsPointBefore f k) u u refl;
          out = λ x n. (λ a. (a, refl));
        }

  -- the walk reaches each instruction
  pub walk_reaches : IsBetweenInsts (length f.insts) begin → i < length f.insts → {b : ℕ} {places : List Place} {t : StateValue} → AllocsBlocks f start begin b places t →
      (e : ℕ) → IsEdge f b e → AreListed f placesf e places → e ≤ i → Met f placesf start begin i t
  walk_reaches fresh lt all_left = λ e edge are le. (let same : e ≡ length f.insts = edge.1 refl in absurd (omega (arith, same, le, lt)))
  walk_reaches fresh lt (one_block c p q s u w lc prev walk begins) = λ e edge are le.
      let first : ℕ = (block_at f c).range.first in
      let end : ℕ = (block_at f c).range.end in
      let at_first : e ≡ first = edge.0 lc in
      let from : first ≤ i = omega (arith, at_first, le) in
      let some : first < end = (follow c lc).0 in
      let behind : IsBetweenInsts end s = allocs_blocks_between (kept_code_of Known f proper kept) follow start begin fresh (c + 1) p s prev end
      (edge_next f follow c lc) in
      let here_listed : AreListed f placesf first q = subst (λ (m : ℕ). AreListed f placesf m q) at_first are in
      let beginning : Grown (IsPointBefore f i) u w = changes_grow (IsPointBefore f i) (begins_block_changes (any_begin (λ e. IsPointBefore f i e.0) f c
      (λ n r. elim (cases_eq first i) [ inl same ↦ inr (ap before same, (c, lc, same)) | inr ne ↦ inl (omega (arith, from, ne)) ])) begins) in
      let aside : (x : ℕ) → IsUnnamedBefore f x i → StaysOut x u w = λ x n. begins_block_out x f c u w (n.params c lc) (n.stores c lc) begins in
      elim (cases_lt i end) [
        | inl inside ↦ extend u w beginning aside (meet_in c lc p s behind prev inside first q u walk here_listed from)
        | inr past ↦ extend u w beginning aside
            (extend s u (grown_weaken (IsWithin first end) (IsPointBefore f i) s u (λ z y. inl (omega (arith, y.1, past)))
            (walk_grown (kept_code_of Known f proper kept) follow c lc p s first q u walk))
            (walk_out c lc p s behind prev first q u walk past)
            (walk_reaches fresh lt prev end (edge_next f follow c lc)
            (walk_listed code s c lc p s first q u walk here_listed) past))
      ]
