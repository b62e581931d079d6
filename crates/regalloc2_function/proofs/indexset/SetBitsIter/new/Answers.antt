use Rattle.std.proofs.Common.{◌<◌, ◌^◌, rules}
use Rattle.regalloc2_function.proofs.NumberBits.{bits_of-times, bits_rise}
use Rattle.regalloc2_function.proofs.indexset.SetBitsIter.new.Goals as goal

pub returns-clause-members : goal.returns-clause-members
returns-clause-members c i =
    let fits : c.args.bits < 2 ^ 64 = search rules in
    bits_of-times c.args.bits i fits

pub returns-clause-rising : goal.returns-clause-rising
returns-clause-rising c = bits_rise 64 0 c.args.bits
