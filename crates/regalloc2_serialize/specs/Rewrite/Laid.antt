-- Functions that are laid out from partial blocks, and what makes them structurally valid.
-- Read first: `HasDrafts`. regalloc2_function defines blocks and their ends.
use Rattle.std.specs.Prelude.{ℕ, ◌≡◌, ◌+◌, ◌-◌, ◌<◌, false, List, [], length, map, take, slice_index, slice_index_or, All}
use Rattle.regalloc2_function.specs.FunctionValue.{FunctionValue, InstValue, Label, block_at, no_inst}
use Rattle.regalloc2_function.specs.WellFormed.{EndsBlock}
use Rattle.regalloc2_serialize.specs.TableFunction.Draft.{DraftValue, draft_at}
use Rattle.regalloc2_serialize.specs.TableFunction.Built.{without_preds, blocks_from, insts_of, preds_from}

-- the function has the blocks `drafts`, one after another, and their instructions
pub record HasDrafts (drafts : List DraftValue) (f : FunctionValue) : Type 0 where
  pub blocks : map without_preds f.blocks ≡ blocks_from 0 drafts
  pub preds : (b : ℕ) → b < length drafts → (block_at f b).preds ≡ preds_from b 0 (map (λ d. d.succs) drafts)
  pub succs : (b : ℕ) → b < length drafts → All (λ s. s < length drafts) (draft_at drafts b).succs
  pub insts : f.insts ≡ insts_of drafts

-- `g` has the blocks `drafts`, the entry `start`, the labels `kept` and the rest of `f`
pub record IsLaidLike (f : FunctionValue) (start : ℕ) (kept : List Label) (drafts : List DraftValue) (g : FunctionValue) : Type 0 where
  pub laid : HasDrafts drafts g
  pub entry : g.entry ≡ start
  pub num_vregs : g.num_vregs ≡ f.num_vregs
  pub slot_sizes : g.slot_sizes ≡ f.slot_sizes
  pub named_by_last_slot : g.named_by_last_slot ≡ f.named_by_last_slot
  pub labels : g.labels ≡ kept
  pub allows_multiple_defs : g.allows_multiple_defs ≡ f.allows_multiple_defs

-- the first instruction of a block
abbrev pub start_of : List DraftValue → ℕ → ℕ
start_of drafts n = length (insts_of (take n drafts))

-- a partial block that ends in a branch or a return, and passes its successors as many arguments as they take
pub record IsFramedDraft (drafts : List DraftValue) (d : DraftValue) : Type 0 where
  pub nonempty : 0 < length d.insts
  pub last : EndsBlock (slice_index_or d.insts (length d.insts - 1) no_inst) (length d.succs)
  pub others : (j : ℕ) → j + 1 < length d.insts → let i : InstValue = slice_index_or d.insts j no_inst in (i.is_branch ≡ false) × (i.is_ret ≡ false)
  pub counted : (k : ℕ) → k < length d.succs → length (slice_index_or d.arguments k []) ≡ length (draft_at drafts (slice_index d.succs k)).params
