-- Blocks that follow one another end within the instructions.
use Rattle.std.proofs.Common.{ℕ, zero, suc, ◌≡◌, ◌+◌, ◌-◌, ◌<◌, ◌≤◌, length, ap, ◌∙◌, arith}
use Rattle.regalloc2_function.specs.FunctionValue.{FunctionValue, block_at}
use Rattle.regalloc2_function.specs.WellFormed.{BlocksFollow}

within_from : (f : FunctionValue) → BlocksFollow f → (k b : ℕ) → b + suc k ≡ length f.blocks → (block_at f b).range.end ≤ length f.insts
within_from f follow zero b e = let h : (block_at f b).range.end ≡ length f.insts = (follow b (omega arith)).3 (omega arith) in omega arith
within_from f follow (suc k) b e =
    let next : (block_at f (b + 1)).range.end ≤ length f.insts = within_from f follow k (b + 1) (omega arith) in
    let before : b + 1 - 1 ≡ b = omega arith in
    let first : (block_at f (b + 1)).range.first ≡ (block_at f b).range.end = (follow (b + 1) (omega arith)).2 (omega arith)
    ∙ ap (λ n. (block_at f n).range.end) before in
    let some : (block_at f (b + 1)).range.first < (block_at f (b + 1)).range.end = (follow (b + 1) (omega arith)).0 in
    omega arith

pub end_within : (f : FunctionValue) → BlocksFollow f → (b : ℕ) → b < length f.blocks → (block_at f b).range.end ≤ length f.insts
end_within f follow b less = within_from f follow (length f.blocks - b - 1) b (omega arith)
