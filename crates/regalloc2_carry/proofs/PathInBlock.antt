-- A path that goes on through its block.
use Rattle.std.proofs.Common.{ℕ, zero, suc, ◌≡◌, ◌+◌, ◌<◌, ◌≤◌, List, ◌∷◌, length, refl, arith, ap, ◌∙◌}
use Rattle.regalloc2_names.specs.Register.{VirtualRegister}
use Rattle.regalloc2_function.specs.FunctionValue.{FunctionValue, block_at, inst_at}
use Rattle.regalloc2_semantics.specs.Runs.{Way, Onward, end_of, IsPath, source_before, over_edge}
use Rattle.regalloc2_semantics.specs.Sound.{Undefined}
use Rattle.regalloc2_semantics.proofs.AfterWrites.{after_defs-other}

-- a path that goes on by `n` instructions
unfoldable pub onwards : ℕ → List Way → List Way
onwards zero ws = ws
onwards (suc n) ws = Onward ∷ onwards n ws

-- a path that goes n instructions further within its block ends in the same block
pub onwards-block : (f : FunctionValue) (n : ℕ) (ws : List Way) → (end_of f (onwards n ws)).block ≡ (end_of f ws).block
unfolding onwards
onwards-block f zero ws = refl
onwards-block f (suc n) ws = onwards-block f n ws

-- a path that goes n instructions further ends n instructions later
pub onwards-inst : (f : FunctionValue) (n : ℕ) (ws : List Way) → (end_of f (onwards n ws)).inst ≡ (end_of f ws).inst + n
unfolding onwards
onwards-inst f zero ws = omega arith
onwards-inst f (suc n) ws = let h : (end_of f (onwards n ws)).inst ≡ (end_of f ws).inst + n = onwards-inst f n ws in omega arith

-- a path that goes n instructions further is a path of the function if it stays within the block's range
pub onwards-path : (f : FunctionValue) (n : ℕ) (ws : List Way) → IsPath f ws → (end_of f ws).inst + n < (block_at f (end_of f ws).block).range.end →
    IsPath f (onwards n ws)
unfolding onwards
onwards-path f zero ws p lt = p
onwards-path f (suc n) ws p lt =
    let i : (end_of f (onwards n ws)).inst ≡ (end_of f ws).inst + n = onwards-inst f n ws in
    let e : (block_at f (end_of f (onwards n ws)).block).range.end ≡ (block_at f (end_of f ws).block).range.end = ap (λ b. (block_at f b).range.end)
    (onwards-block f n ws) in
    (onwards-path f n ws p (omega arith), omega arith)

-- a vreg that none of the `n` instructions writes keeps its write
pub onwards-source : (f : FunctionValue) (n : ℕ) (ws : List Way) (v : VirtualRegister) →
    ((i : ℕ) → (end_of f ws).inst ≤ i → i < (end_of f ws).inst + n → Undefined (inst_at f i).operands v) →
    source_before f (onwards n ws) v ≡ source_before f ws v
unfolding onwards source_before over_edge
onwards-source f zero ws v h = refl
onwards-source f (suc n) ws v h =
    let i : (end_of f (onwards n ws)).inst ≡ (end_of f ws).inst + n = onwards-inst f n ws in
    after_defs-other (inst_at f (end_of f (onwards n ws)).inst).operands (length (onwards n ws)) 0 (source_before f (onwards n ws)) v
    (h (end_of f (onwards n ws)).inst (omega arith) (omega arith))
    ∙ onwards-source f n ws v (λ j le lt. h j le (omega arith))
