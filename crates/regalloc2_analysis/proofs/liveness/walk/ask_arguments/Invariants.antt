use Rattle.std.proofs.Common.{take}
use Rattle.std.specs.Prelude.{◌&&◌, not}
use Rattle.regalloc2_semantics.specs.Sound.{names}
use Rattle.regalloc2_analysis.specs.Liveness.BlockVRegPairs.{Grows, holds}
use Rattle.regalloc2_analysis.proofs.liveness.walk.ask_arguments.Given as goal

-- the upward-exposed uses among the arguments so far are listed
abbrev pub invariant-loop-argument : goal.invariant-loop-argument
invariant-loop-argument g l = Grows l.block (λ v. names v (take l.argument-index l.arguments) && not (holds l.written (l.block, v))) l.fn.needs l.needs
