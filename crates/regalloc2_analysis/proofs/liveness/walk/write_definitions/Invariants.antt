use Rattle.std.proofs.Common.{take}
use Rattle.regalloc2_carry.specs.Listing.{defines}
use Rattle.regalloc2_analysis.specs.Liveness.BlockVRegPairs.{Gains, holds}
use Rattle.regalloc2_analysis.proofs.liveness.walk.write_definitions.Given as goal

-- what the operands so far define is noted
abbrev pub invariant-loop-operand : goal.invariant-loop-operand
invariant-loop-operand g l = Gains l.block (λ v. defines v (take l.operand-index l.operands)) (holds l.fn.written) (holds l.written)
