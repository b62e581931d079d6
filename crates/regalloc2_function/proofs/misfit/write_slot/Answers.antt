use Rattle.regalloc2_function.proofs.misfit.write_slot.Goals as goal

pub returns : goal.returns
returns g c = λ plain ok. rw c.name-class.ensures at (c.write.ensures.writes plain ok)
