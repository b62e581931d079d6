use Rattle.std.proofs.Common.{length, ◌<◌, rules}
use Rattle.regalloc2_names.specs.Register.{has_register}
use Rattle.regalloc2_names.proofs.SetBits.{words_add}
use Rattle.regalloc2_names.proofs.sets.PRegSet.add.Goals as goal

pub returns-clause-members : goal.returns-clause-members
unfolding has_register
returns-clause-members c r =
    let n : c.split_index-index.result.0 < length c.args.self.now.bits = search rules in
    rw (← c.split_index-index.ensures.word, ← c.split_index-index.ensures.bit)
    (words_add c.args.self.now.bits c.split_index-index.result.0 c.split_index-index.result.1 r n c.split_index-index.ensures.bit_small)
