use Rattle.regalloc2_names.specs.Register.{has_register}
use Rattle.regalloc2_names.proofs.SetBits.{tests_bit}
use Rattle.regalloc2_names.proofs.sets.PRegSet.contains.Goals as goal

pub returns-clause-member : goal.returns-clause-member
unfolding has_register
returns-clause-member c = rw (← c.split_index-index.ensures.word, ← c.split_index-index.ensures.bit)
    (tests_bit _ c.split_index-index.result.1 c.split_index-index.ensures.bit_small)
