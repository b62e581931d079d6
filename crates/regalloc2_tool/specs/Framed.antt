-- What a listing requires of a function.
use Rattle.std.specs.Prelude.{ℕ, ◌<◌, ◌≤◌, length}
use Rattle.regalloc2_function.specs.FunctionValue.{FunctionValue, block_at}

-- each block has instructions, and they are among the function's
abbrev pub BlocksAreWithin : FunctionValue → Type 0
BlocksAreWithin f = (b : ℕ) → b < length f.blocks → ((block_at f b).range.first < (block_at f b).range.end) × ((block_at f b).range.end ≤ length f.insts)
