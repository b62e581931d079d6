use Rattle.std.proofs.Common.{ℕ, ◌≡◌, ◌+◌, get_or, take}
use Rattle.regalloc2_function.specs.WellFormed.{times_in}
use Rattle.regalloc2_function.proofs.blocks.count_in.Given as goal

abbrev pub invariant-loop-block : goal.invariant-loop-block
invariant-loop-block l = (b : ℕ) → get_or l.counts b 0 ≡ get_or l.fn.counts b 0 + times_in b (take l.block-index l.blocks)
