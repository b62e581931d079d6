-- The tables of a function's blocks and instructions.
use Rattle.std.specs.Prelude.{ℕ, ◌≡◌, ◌<◌, ◌≤◌, ◌↔◌, true, List, [], ◌∷◌, length, map, slice_index}
use Rattle.regalloc2_names.specs.Place.{before, after}
use Rattle.regalloc2_function.specs.FunctionValue.{FunctionValue, BlockValue, block_at, last_of}
use Rattle.regalloc2_function.specs.Reasons.{HasShape}
use Rattle.regalloc2_function.specs.Leaves.{Leaves, ListsOnce, Reaches, met, succs_in}
use Rattle.regalloc2_function.specs.declared.cfg.CFGInfo.{CFGInfo}

-- each instruction of the first blocks has its block
abbrev pub HaveBlocks : FunctionValue → ℕ → List ℕ → Type 0
HaveBlocks f n bs = (b i : ℕ) → b < n → (block_at f b).range.first ≤ i → i < (block_at f b).range.end → slice_index bs i ≡ b

-- the points before the first instruction of each block, and after the last
abbrev pub entry_point : BlockValue → ℕ
entry_point b = before b.range.first

abbrev pub exit_point : BlockValue → ℕ
exit_point b = after (last_of b)

-- the tables of a function
pub record AreCFGTables {A : Type 0} (f : FunctionValue) (t : CFGInfo A) : Type 0 where
  pub order : Leaves (succs_in f) [] (f.entry ∷ []) t.postorder.items
  pub once : ListsOnce t.postorder.items
  pub reached : (b : ℕ) → ((met t.postorder.items b ≡ true) ↔ Reaches (succs_in f) f.entry b)
  pub insts : length t.insn_block.items ≡ length f.insts
  pub insn_block : HaveBlocks f (length f.blocks) t.insn_block.items
  pub block_entry : t.block_entry.items ≡ map entry_point f.blocks
  pub block_exit : t.block_exit.items ≡ map exit_point f.blocks

-- the tables of a function that passes the tests of blocks and edges
pub record IsInfoOf {A : Type 0} (f : FunctionValue) (t : CFGInfo A) : Type 0 where
  pub shape : HasShape f
  pub tables : AreCFGTables f t

-- tables without entries
pub record IsEmptyInfo {A : Type 0} (t : CFGInfo A) : Type 0 where
  pub postorder : t.postorder.items ≡ []
  pub insn_block : t.insn_block.items ≡ []
  pub block_entry : t.block_entry.items ≡ []
  pub block_exit : t.block_exit.items ≡ []
