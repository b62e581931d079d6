use Rattle.std.proofs.Common.{arith}
use Rattle.regalloc2_function.specs.Inside.NumberWords.{KeysApart}
use Rattle.regalloc2_function.proofs.indexset.Few.new.Goals as goal

pub invariant_of-result : goal.invariant_of-result
unfolding KeysApart
invariant_of-result c = (omega arith, tt)
