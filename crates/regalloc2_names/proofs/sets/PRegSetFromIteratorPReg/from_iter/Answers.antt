use Rattle.regalloc2_names.specs.Collected.{collected}
use Rattle.regalloc2_names.proofs.sets.PRegSetFromIteratorPReg.from_iter.Goals as goal

pub loop-reg-preserved : goal.loop-reg-preserved
loop-reg-preserved g c = collected _ _ _ _ c.loop-reg.invariant c.add.ensures.members
