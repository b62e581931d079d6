use Rattle.std.proofs.Common.{take}
use Rattle.std.specs.Prelude.{◌&&◌, not}
use Rattle.regalloc2_analysis.specs.Liveness.BlockVRegPairs.{Grows, holds}
use Rattle.regalloc2_analysis.specs.Liveness.BlockWalk.{reads}
use Rattle.regalloc2_analysis.proofs.liveness.walk.ask_reads.Given as goal

-- the upward-exposed uses among the operands so far are listed
abbrev pub invariant-loop-operand : goal.invariant-loop-operand
invariant-loop-operand g l = Grows l.block (λ v. reads l.pos v (take l.operand-index l.operands) && not (holds l.written (l.block, v))) l.fn.needs l.needs
