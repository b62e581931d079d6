use Rattle.std.proofs.Common.{refl}
use Rattle.regalloc2_function.proofs.NumberBits.{bits_of-zero}
use Rattle.regalloc2_function.proofs.indexset.IndexSet.iter.Goals as goal

pub returns : goal.returns
returns g c = rw (bits_of-zero 0 refl, c.words.ensures.list) c.words.ensures.members
