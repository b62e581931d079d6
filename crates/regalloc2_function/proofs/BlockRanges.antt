-- Blocks that follow one another.
use Rattle.std.proofs.Common.{ℕ, ◌≡◌, ◌+◌, ◌-◌, ◌<◌, length, get_or, ap, ◌∙◌, arith}
use Rattle.std.proofs.lemmas.List.{get_or_default}
use Rattle.regalloc2_function.specs.FunctionValue.{FunctionValue, block_at, no_block}
use Rattle.regalloc2_function.specs.WellFormed.{BlocksFollow}

-- a block begins where the one before ends
pub first_after : (f : FunctionValue) → BlocksFollow f → (b : ℕ) → b + 1 < length f.blocks → (block_at f (b + 1)).range.first ≡ (block_at f b).range.end
first_after f follow b less = let e : b + 1 - 1 ≡ b = omega arith in (follow (b + 1) less).2 (omega arith) ∙ ap (λ n. (block_at f n).range.end) e

-- a block that is there, read with any default
pub block_is : (f : FunctionValue) (b : ℕ) → b < length f.blocks → block_at f b ≡ get_or f.blocks b (block_at f b)
block_is f b less = get_or_default f.blocks b no_block (block_at f b) less
