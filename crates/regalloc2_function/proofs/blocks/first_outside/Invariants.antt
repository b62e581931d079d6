use Rattle.std.proofs.Common.{◌<◌, take}
use Rattle.std.specs.Prelude.{All}
use Rattle.regalloc2_function.proofs.blocks.first_outside.Given as goal

-- the blocks so far are blocks
abbrev pub invariant-loop-block : goal.invariant-loop-block
invariant-loop-block l = All (λ s. s < l.num_blocks) (take l.block-index l.blocks)
