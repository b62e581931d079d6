use Rattle.std.proofs.Common.{ℕ, ◌≡◌, ◌<◌, get_or}
use Rattle.regalloc2_function.proofs.blocks.are_used_up.Given as goal

abbrev pub invariant-loop-block : goal.invariant-loop-block
invariant-loop-block l = (k : ℕ) → k < l.block-index → get_or l.counts (get_or l.blocks k 0) 0 ≡ 0
