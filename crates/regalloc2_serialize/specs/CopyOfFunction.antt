-- What a stored function keeps of a function.
use Rattle.std.specs.Prelude.{ℕ, ◌≡◌, ◌<◌, ◌≤◌, ◌&&◌, true, false, not, [], All, length, map, slice_index_or}
use Rattle.std.specs.List.{range_with_len}
use Rattle.regalloc2_function.specs.FunctionValue.{FunctionValue, BlockValue, InstValue, block_at}

-- each block has instructions, and they are among the function's
abbrev pub HasNonemptyBlocks : FunctionValue → Type 0
HasNonemptyBlocks f = (b : ℕ) → b < length f.blocks → ((block_at f b).range.first < (block_at f b).range.end) × ((block_at f b).range.end ≤ length f.insts)

-- a block with as many lists of arguments as successors, which is all that a function's calls show of it
abbrev pub shown_block : BlockValue → BlockValue
shown_block b = record {
  range = b.range;
  succs = b.succs;
  preds = b.preds;
  params = b.params;
  arguments = map (λ k. slice_index_or b.arguments k []) (range_with_len 0 (length b.succs));
}

-- an instruction, as a branch only where it is no return
abbrev pub shown_inst : InstValue → InstValue
shown_inst i = record { operands = i.operands; clobbers = i.clobbers; is_branch = not i.is_ret && i.is_branch; is_ret = i.is_ret }

-- the function that is stored for `f`
abbrev pub shown_function : FunctionValue → FunctionValue
shown_function f = record {
  blocks = map shown_block f.blocks;
  insts = map shown_inst f.insts;
  entry = f.entry;
  num_vregs = f.num_vregs;
  slot_sizes = f.slot_sizes;
  named_by_last_slot = f.named_by_last_slot;
  labels = f.labels;
  allows_multiple_defs = f.allows_multiple_defs;
}

-- what a stored function keeps is the whole function: no instruction is both a branch and a return, and each block
-- has a list of arguments for each successor
abbrev pub IsKeptWhole : FunctionValue → Type 0
IsKeptWhole f = All (λ i. i.is_branch ≡ true → i.is_ret ≡ false) f.insts × All (λ b. length b.arguments ≡ length b.succs) f.blocks
