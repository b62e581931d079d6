use Rattle.std.proofs.Common.{take}
use Rattle.regalloc2_semantics.specs.Sound.{names}
use Rattle.regalloc2_analysis.specs.Liveness.BlockVRegPairs.{Gains, holds}
use Rattle.regalloc2_analysis.proofs.liveness.walk.note_params.Given as goal

-- the parameters so far are noted
abbrev pub invariant-loop-param : goal.invariant-loop-param
invariant-loop-param g l = Gains l.block (λ v. names v (take l.param-index l.params)) (holds l.fn.noted) (holds l.noted)
