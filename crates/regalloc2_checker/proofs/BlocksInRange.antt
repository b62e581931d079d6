-- In a structurally valid function (`IsFramed`) each block is within the instructions, and leads to blocks.
use Rattle.std.proofs.Common.{◌≡◌, ℕ, zero, suc, ◌+◌, ◌-◌, ◌<◌, ◌≤◌, List, length, slice_index, get_or, ◌∙◌, arith}
use Rattle.std.proofs.lemmas.Grind.{get_or_default_zero}
use Rattle.regalloc2_function.specs.FunctionValue.{FunctionValue, block_at}
use Rattle.regalloc2_function.specs.WellFormed.{IsFramed, BlocksFollow}

-- the block n blocks before the last one ends within the instructions
block-within : (f : FunctionValue) → BlocksFollow f → (n b : ℕ) → b + n + 1 ≡ length f.blocks → (block_at f b).range.end ≤ length f.insts
block-within f h zero b e =
    let here = h b (omega arith) in
    let last : (block_at f b).range.end ≡ length f.insts = here.3 (omega arith) in
    omega arith
block-within f h (suc n) b e =
    let next = h (suc b) (omega arith) in
    let prev : suc b - 1 ≡ b = omega arith in
    let starts = rw prev at (next.2 (omega arith)) in
    let rest : (block_at f (suc b)).range.end ≤ length f.insts = block-within f h n (suc b) (omega arith) in
    let nonempty = next.0 in
    omega arith

-- in a structurally valid function each block ends within the function's instructions
pub insts_within : (f : FunctionValue) → IsFramed f → (b : ℕ) → b < length f.blocks → (block_at f b).range.end ≤ length f.insts
insts_within f h b l = block-within f h.follow (length f.blocks - 1 - b) b (omega arith)

-- in a structurally valid function each block has an instruction
pub nonempty : (f : FunctionValue) → IsFramed f → (b : ℕ) → b < length f.blocks → (block_at f b).range.first < (block_at f b).range.end
nonempty f h b l = (h.follow b l).0

-- an item of a list, as it was read
pub index_is : (xs ys : List ℕ) (k t : ℕ) → k < length ys → t ≡ get_or ys k t → ys ≡ xs → t ≡ slice_index xs k
index_is xs ys k t l is e = rw e at (is ∙ get_or_default_zero ys k t l)
