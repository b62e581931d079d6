use Rattle.std.proofs.Common.{◌∙◌, ap, arith}
use Rattle.std.proofs.lemmas.List.{length_push}
use Rattle.regalloc2_analysis.specs.Liveness.BlockVRegPairs.{BlockSets, holds}
use Rattle.regalloc2_analysis.proofs.LivenessLemmas.PairSets.{holds_more}
use Rattle.regalloc2_analysis.proofs.liveness.sets.BlockVRegs.reach.Goals as goal

pub loop-block-init : goal.loop-block-init
loop-block-init g c = λ p. ap (λ (ss : BlockSets). holds ss p) c.self.view_is

pub loop-block-preserved : goal.loop-block-preserved
loop-block-preserved g c = λ p. rw c.in_ok-push.ensures.items (holds_more c.loop-block.self-inside.sets.items c.new.result p c.new.ensures)
    ∙ c.loop-block.invariant p

pub loop-block-smaller : goal.loop-block-smaller
loop-block-smaller g c = rw c.in_ok-push.ensures.items (omega (arith, length_push c.loop-block.self-inside.sets.items c.new.result))
