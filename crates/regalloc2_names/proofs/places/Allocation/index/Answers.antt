use Rattle.regalloc2_names.proofs.Words.{index_of_word}
use Rattle.regalloc2_names.proofs.places.Allocation.index.Goals as goal

pub returns : goal.returns
returns c = rw (← c.self.view_is) (index_of_word c.self.inside.bits c.self.invariant)
