-- A function whose blocks are put in another order.
-- The order is this project's own; regalloc2_function defines blocks and paths.
use Rattle.std.specs.Prelude.{ℕ, ◌≡◌, ◌↔◌, ◌+◌, ◌-◌, ◌<◌, nat_eq, List, [], length, map, slice_index, All, Contains}
use Rattle.std.specs.List.{position_or_len, range_with_len}
use Rattle.regalloc2_names.specs.Register.{VirtualRegister}
use Rattle.regalloc2_function.specs.FunctionValue.{FunctionValue, block_at, inst_at, EachBlock}
use Rattle.regalloc2_semantics.specs.Runs.{Way, IsPath, last_inst, arguments_at, source_before}
use Rattle.regalloc2_function.specs.WellFormed.{IsFramed, PredecessorsAt}
use Rattle.regalloc2_serialize.specs.TableFunction.Draft.{DraftValue}
use Rattle.regalloc2_serialize.specs.declared.rewrite.error.RewriteError.{RewriteError}
use Rattle.regalloc2_serialize.specs.declared.rewrite.error.RewriteError.TheVariants.{Memory, Unframed, NoOrder, Labels, TooManyBlocks, TooManyInsts}

-- an order lists each of `count` blocks once
pub record ListsEachOnce (count : ℕ) (order : List ℕ) : Type 0 where
  pub long : length order ≡ count
  pub within : All (λ b. b < count) order
  pub each : (b : ℕ) → b < count → Contains order b

-- the new number of a block: its position in the order
abbrev pub new_number : List ℕ → ℕ → ℕ
new_number order b = position_or_len (λ x. nat_eq x b) order

-- an order lists each of `count` blocks once, and `numbers` has their new numbers
pub record AreNumbers (count : ℕ) (order numbers : List ℕ) : Type 0 where
  pub listed : ListsEachOnce count order
  pub long : length numbers ≡ count
  pub each : (b : ℕ) → b < count → slice_index numbers b ≡ new_number order b

-- block `n` of `g` is block `b` of `f`, but for the numbers of its successors and instructions
pub record IsRenumberedBlock (f : FunctionValue) (order : List ℕ) (b : ℕ) (g : FunctionValue) (n : ℕ) : Type 0 where
  pub params : (block_at g n).params ≡ (block_at f b).params
  pub succs : (block_at g n).succs ≡ map (new_number order) (block_at f b).succs
  pub arguments : (k : ℕ) → k < length (block_at f b).succs → arguments_at g n k ≡ arguments_at f b k
  pub long : (block_at g n).range.end + (block_at f b).range.first ≡ (block_at g n).range.first + (block_at f b).range.end
  pub insts : (j : ℕ) → (block_at f b).range.first + j < (block_at f b).range.end →
      inst_at g ((block_at g n).range.first + j) ≡ inst_at f ((block_at f b).range.first + j)

-- a list of ways is a path of both functions or of neither; after each path both are at one instruction, and each
-- vreg has the same last write
pub record HasSamePaths (f g : FunctionValue) : Type 0 where
  pub paths : (ws : List Way) → IsPath f ws ↔ IsPath g ws
  pub insts : (ws : List Way) → IsPath f ws → last_inst g ws ≡ last_inst f ws
  pub writes : (ws : List Way) → IsPath f ws → (v : VirtualRegister) → source_before g ws v ≡ source_before f ws v

-- `g` is `f` with its blocks in that order, and without labels
pub record IsRenumbered (f : FunctionValue) (order : List ℕ) (g : FunctionValue) : Type 0 where
  pub framed : IsFramed g
  pub predecessors : EachBlock g (PredecessorsAt g)
  pub count : length g.blocks ≡ length f.blocks
  pub blocks : (n : ℕ) → n < length f.blocks → IsRenumberedBlock f order (slice_index order n) g n
  pub entry : g.entry ≡ new_number order f.entry
  pub num_vregs : g.num_vregs ≡ f.num_vregs
  pub slot_sizes : g.slot_sizes ≡ f.slot_sizes
  pub named_by_last_slot : g.named_by_last_slot ≡ f.named_by_last_slot
  pub labels : g.labels ≡ []
  pub allows_multiple_defs : g.allows_multiple_defs ≡ f.allows_multiple_defs
  pub same_paths : HasSamePaths f g

-- why blocks have no numbers
abbrev pub IsUnnumbered : ℕ → List ℕ → RewriteError → Type 0
IsUnnumbered count order Memory = Unit {0}
IsUnnumbered count order NoOrder = ListsEachOnce count order → ⊥
IsUnnumbered count order Unframed = ⊥
IsUnnumbered count order Labels = ⊥
IsUnnumbered count order TooManyBlocks = ⊥
IsUnnumbered count order TooManyInsts = ⊥

-- why a function isn't renumbered
abbrev pub IsUnrenumbered : FunctionValue → List ℕ → RewriteError → Type 0
IsUnrenumbered f order Memory = Unit {0}
IsUnrenumbered f order Unframed = IsFramed f → ⊥
IsUnrenumbered f order Labels = 0 < length f.labels
IsUnrenumbered f order NoOrder = ListsEachOnce (length f.blocks) order → ⊥
IsUnrenumbered f order TooManyBlocks = ⊥
IsUnrenumbered f order TooManyInsts = ⊥

-- a block under new numbers, as it is laid out
abbrev pub renamed : (ℕ → ℕ) → FunctionValue → ℕ → DraftValue
renamed number f b = record {
  params = (block_at f b).params;
  insts = map (inst_at f) (range_with_len (block_at f b).range.first ((block_at f b).range.end - (block_at f b).range.first));
  succs = map number (block_at f b).succs;
  arguments = map (arguments_at f b) (range_with_len 0 (length (block_at f b).succs));
}
