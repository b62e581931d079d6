use Rattle.regalloc2_names.specs.Register.{has_register}
use Rattle.regalloc2_names.proofs.SetBits.{words_meet}
use Rattle.regalloc2_names.proofs.sets.PRegSet.intersect_from.Goals as goal

pub returns : goal.returns
unfolding has_register
returns c r = words_meet c.args.self.now.bits c.args.other.bits r.class r.number
